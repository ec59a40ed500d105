use Rattle.std.proofs.Common.{rules, ◌≡◌, ℕ, ◌+◌, ◌-◌, ◌*◌, ◌^◌, ◌≤◌, ◌∷◌, length, map, take, drop, sym, ◌∙◌, ap, subst, arith}
use Rattle.std.proofs.lemmas.List.{length-map, length-take-le}
use Rattle.std.proofs.lemmas.Nat.{mul-le, pow_pos}
use Rattle.sc_definitions.specs.Ring.{plus, times, minus}
use Rattle.sc_definitions.specs.Tables.{entries}
use Rattle.sc_field.specs.Products.{products}
use Rattle.sc_table.specs.Blocks.{block_weight}
use Rattle.sc_table.proofs.EntryLaws.{entry-take}
use Rattle.sc_table.proofs.BlockWeights.{IsSplit, split-first, two_blocks, split-blocks, blocks-alone}
use Rattle.sc_weights.specs.Moved.{moved_down}
use Rattle.sc_weights.proofs.Halves.{front_blocks, back_blocks, low-shared, high-shared}
use Rattle.sc_weights.proofs.NextValues.{moved-line}
use Rattle.sc_weights.proofs.successor.+moved_blocks_value.Goals as goal

pub returns-in_default : goal.returns-in_default
returns-in_default g t c =
    let f = g.EF.Field in
    let embed = g.EF.Algebra.embedding in
    let of : g.row.A.Denot → ℕ = g.A.Field.number in
    let rows = c.args.rows.now in
    let weights = c.args.weights.now in
    let outer = c.args.outer.now in
    let none : length outer ≡ 0 = omega (arith, c.in_default.len_below) in
    c.moved_block_value.ensures
    ∙ blocks-alone f.ops g.met.EF.Field.is_field.ring (length weights) c.requires.some (entries f.number weights) (map f.number outer)
    (moved_down (length rows) c.args.stride (λ j. embed (entries of c.args.after.now j)) (λ b. embed (entries of rows b))) (length rows)
    (omega (arith, none, length-map outer f.number)) (c.requires.size ∙ ap (λ k. 2 ^ k * length weights) none ∙ omega arith)

pub slice_bounds-moved_blocks_value-end : goal.slice_bounds-moved_blocks_value-end
slice_bounds-moved_blocks_value-end g t c =
    let n = length c.args.weights.now in
    let rest = take (length c.args.outer.now - 1) (drop 1 c.args.outer.now) in
    let back = c.split_at.result.1.now in
    let highs : length back ≡ 2 ^ length rest * n = back_blocks c.args.rows.now c.args.outer.now n c.requires.size c.in-len1-up.len_at_least back (omega (arith, c.split_at.ensures.back_len)) in
    let fits : 1 * n ≤ 2 ^ length rest * n = mul-le 1 n (2 ^ length rest) n (pow_pos (length rest)) (omega arith) in
    sym (length-take-le c.args.stride back (omega (arith, highs, fits, c.requires.stride)))

pub moved_blocks_value-lo-requires : goal.moved_blocks_value-lo-requires
moved_blocks_value-lo-requires g t c κs within =
    let n = length c.args.weights.now in
    let rest = take (length c.args.outer.now - 1) (drop 1 c.args.outer.now) in
    let back = c.split_at.result.1.now in
    let highs : length back ≡ 2 ^ length rest * n = back_blocks c.args.rows.now c.args.outer.now n c.requires.size c.in-len1-up.len_at_least back (omega (arith, c.split_at.ensures.back_len)) in
    let fits : 1 * n ≤ 2 ^ length rest * n = mul-le 1 n (2 ^ length rest) n (pow_pos (length rest)) (omega arith) in (
      search rules,
      (
        within.0,
        (
          within.1,
          (
            front_blocks c.args.rows.now c.args.outer.now n c.requires.size c.in-len1-up.len_at_least c.split_at.result.0.now c.split_at.ensures.front_len,
            (c.requires.some, (c.requires.few, (c.requires.stride, length-take-le c.args.stride back (omega (arith, highs, fits, c.requires.stride))))),
          ),
        ),
      ),
    )

pub moved_blocks_value-hi-requires : goal.moved_blocks_value-hi-requires
moved_blocks_value-hi-requires g t c κs within = (
  search rules,
  (
    within.0,
    (
      within.1,
      (
        back_blocks c.args.rows.now c.args.outer.now (length c.args.weights.now) c.requires.size c.in-len1-up.len_at_least c.split_at.result.1.now (omega (arith, c.split_at.ensures.back_len)),
        (c.requires.some, (c.requires.few, (c.requires.stride, c.requires.after))),
      ),
    ),
  ),
)

pub returns : goal.returns
returns g t c =
    let f = g.EF.Field in
    let ring = g.met.EF.Field.is_field.ring in
    let rows = c.args.rows.now in
    let outer = c.args.outer.now in
    let weights = c.args.weights.now in
    let n = length weights in
    let w = entries f.number weights in
    let first = c.first-item.result in
    let rest = take (length outer - 1) (drop 1 outer) in
    let some : 1 ≤ length outer = omega (arith, c.in-len1-up.len_at_least) in
    let split : outer ≡ first ∷ rest = split-first outer first some c.first-item.is in
    let zs = map f.number rest in
    let all = map f.number outer in
    let p = 2 ^ length rest * n in
    let v = block_weight f.ops zs n w in
    let whole = block_weight f.ops all n w in
    let sized : 2 ^ length zs * n ≡ p = ap (λ k. 2 ^ k * n) (length-map rest f.number) in
    let size : length rows ≡ p + p = two_blocks rows outer n c.requires.size some in
    let halves : IsSplit f.ops (f.number first) p v whole = subst (λ k. IsSplit f.ops (f.number first) k v whole) sized (split-blocks f.ops ring n c.requires.some w (f.number first) zs all (ap (map f.number) split)) in
    let fits : 1 * n ≤ p = mul-le 1 n (2 ^ length rest) n (pow_pos (length rest)) (omega arith) in
    let embed = g.EF.Algebra.embedding in
    let of : g.row.A.Denot → ℕ = g.A.Field.number in
    let s = c.args.stride in
    let front = c.split_at.result.0.now in
    let back = c.split_at.result.1.now in
    let u : ℕ → ℕ = λ b. embed (entries of rows b) in
    let low : ℕ → ℕ = λ b. embed (entries of front b) in
    let high : ℕ → ℕ = λ b. embed (entries of back b) in
    let lows : length front ≡ p = front_blocks rows outer n c.requires.size some front c.split_at.ensures.front_len in
    let highs : length back ≡ p = back_blocks rows outer n c.requires.size some back (omega (arith, c.split_at.ensures.back_len)) in
    let after : ℕ → ℕ = λ j. embed (entries of c.args.after.now j) in
    let between : ℕ → ℕ = λ j. embed (entries of (take s back) j) in
    let shared : (b : ℕ) → high b ≡ u (p + b) = λ b. ap embed (high-shared of rows p size back c.split_at.ensures.back b) in
    let lo = f.number c.moved_blocks_value-lo.result in
    let hi = f.number c.moved_blocks_value-hi.result in
    let lower : lo ≡ products f.ops p (moved_down p s between low) v = c.moved_blocks_value-lo.ensures ∙ ap (λ k. products f.ops k (moved_down k s between low) v) lows in
    let upper : hi ≡ products f.ops p (moved_down p s after high) v = c.moved_blocks_value-hi.ensures ∙ ap (λ k. products f.ops k (moved_down k s after high) v) highs in
    let slope : f.number c.mul.result ≡ times f.ops (minus f.ops hi lo) (f.number first) = cc (c.mul.ensures, c.sub.ensures) in
    c.add.ensures ∙ ap (plus f.ops lo) slope
    ∙ moved-line f.ops ring (f.number first) p s (length rows) u v whole low high after between lo hi halves size (omega (arith, fits, c.requires.stride))
    (λ b below. ap embed (low-shared of rows p size front c.split_at.ensures.front b below)) (λ b _. shared b)
    (λ j below. ap embed (entry-take of back s j below) ∙ shared j) lower upper
