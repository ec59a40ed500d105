use Rattle.std.proofs.Common.{rules, ◌≡◌, ℕ, ◌+◌, ◌-◌, ◌*◌, ◌^◌, ◌<◌, ◌≤◌, ◌∷◌, length, map, take, drop, refl, sym, ◌∙◌, ap, subst, arith}
use Rattle.std.proofs.lemmas.List.{length-map}
use Rattle.std.proofs.lemmas.Nat.{mul-le, pow_pos}
use Rattle.sc_definitions.specs.Ring.{plus, times, minus}
use Rattle.sc_definitions.specs.Tables.{entries, equality_weight}
use Rattle.sc_definitions.proofs.RingLaws.{times_assoc}
use Rattle.sc_definitions.proofs.TableLaws.{two_halves}
use Rattle.sc_table.specs.Blocks.{block_weight}
use Rattle.sc_table.proofs.BlockWeights.{IsSplit, split-first, two_blocks, split-weight, split-blocks, block-at}
use Rattle.sc_weights.specs.Moved.{moved_up}
use Rattle.sc_weights.proofs.Halves.{halves-added, low_blocks, high_blocks, last-of}
use Rattle.sc_weights.proofs.NextSteps.{share-low, share-high, last-row, last-none, gain-alone, up-same, up-high}
use Rattle.sc_weights.proofs.successor.+add_moved_blocks.Goals as goal

pub returns-in_default-clause-rows : goal.returns-in_default-clause-rows
returns-in_default-clause-rows g t c = λ b low.
    let f = g.EF.Field in
    let outer = c.args.outer.now in
    let n = length c.args.weights.now in
    let none : length outer ≡ 0 = omega (arith, c.in_default.len_below) in
    let size : length c.args.rows.now ≡ n = c.requires.size ∙ ap (λ k. 2 ^ k * n) none ∙ omega arith in
    let w = entries f.number c.args.weights.now in
    let scale = f.number c.args.scale in
    let first : ℕ → ℕ = λ j. times f.ops (f.number c.args.before) (w (n - c.args.stride + j)) in
    c.add_moved_block.ensures b low
    ∙ ap (plus f.ops (entries f.number c.args.rows.now b)) (up-same c.args.stride first first (λ k. times f.ops scale (w k)) (λ k. times f.ops scale (block_weight f.ops (map f.number outer) n w k)) n b (λ j _. refl)
    (gain-alone f.ops g.met.EF.Field.is_field.ring scale (map f.number outer) n w c.requires.some (omega (arith, none, length-map outer f.number)))
    (subst (λ k. b < k) size low))

pub returns-in_default-clause-last : goal.returns-in_default-clause-last
returns-in_default-clause-last g t c =
    let f = g.EF.Field in
    let met = g.met.EF.Field in
    let outer = c.args.outer.now in
    last-none f.ops met.is_field.ring (f.number c.args.scale) (map f.number outer) (omega (arith, c.in_default.len_below, length-map outer f.number)) (met.number_below c.args.scale)
    ∙ ap (λ n. times f.ops (f.number c.args.scale) (equality_weight f.ops (map f.number outer) (2 ^ n - 1))) (length-map outer f.number)

pub add_moved_blocks-between-requires : goal.add_moved_blocks-between-requires
add_moved_blocks-between-requires g t c κs within = (
  search rules,
  (within, (low_blocks c.args.rows.now c.args.outer.now (length c.args.weights.now) c.requires.size c.in-len1-up.len_at_least, (c.requires.some, c.requires.stride))),
)

pub add_moved_blocks-requires : goal.add_moved_blocks-requires
add_moved_blocks-requires g t c κs within = (
  search rules,
  (within, (high_blocks c.args.rows.now c.args.outer.now (length c.args.weights.now) c.requires.size c.in-len1-up.len_at_least c.add_moved_blocks-between.new.rows c.add_moved_blocks-between.auto.rows, (c.requires.some, c.requires.stride))),
)

pub returns-clause-rows : goal.returns-clause-rows
returns-clause-rows g t c = λ b inside.
    let f = g.EF.Field in
    let ring = g.met.EF.Field.is_field.ring in
    let rows = c.args.rows.now in
    let outer = c.args.outer.now in
    let weights = c.args.weights.now in
    let n = length weights in
    let w = entries f.number weights in
    let first = c.first-item.result in
    let rest = take (length outer - 1) (drop 1 outer) in
    let some : 1 ≤ length outer = omega (arith, c.in-len1-up.len_at_least) in
    let split : outer ≡ first ∷ rest = split-first outer first some c.first-item.is in
    let zs = map f.number rest in
    let all = map f.number outer in
    let p = 2 ^ length rest * n in
    let v = block_weight f.ops zs n w in
    let whole = block_weight f.ops all n w in
    let sized : 2 ^ length zs * n ≡ p = ap (λ k. 2 ^ k * n) (length-map rest f.number) in
    let size : length rows ≡ p + p = two_blocks rows outer n c.requires.size some in
    let halves : IsSplit f.ops (f.number first) p v whole = subst (λ k. IsSplit f.ops (f.number first) k v whole) sized (split-blocks f.ops ring n c.requires.some w (f.number first) zs all (ap (map f.number) split)) in
    let fits : 1 * n ≤ p = mul-le 1 n (2 ^ length rest) n (pow_pos (length rest)) (omega arith) in
    let scale = f.number c.args.scale in
    let s = c.args.stride in
    let ones : f.number c.mul-at_one.result ≡ times f.ops scale (f.number first) = c.mul-at_one.ensures in
    let zeros : f.number c.sub.result ≡ minus f.ops scale (times f.ops scale (f.number first)) = c.sub.ensures ∙ ap (minus f.ops scale) ones in
    let low_scale = minus f.ops scale (times f.ops scale (f.number first)) in
    let before : ℕ → ℕ = λ j. times f.ops (f.number c.args.before) (w (n - s + j)) in
    let Q = 2 ^ length zs in
    let last : (Q - 1) * n + n ≡ p = last-of Q n (pow_pos (length zs)) ∙ sized in
    let between = f.number c.add_moved_blocks-between.result in
    let between_is : between ≡ times f.ops low_scale (equality_weight f.ops zs (Q - 1)) =
    c.add_moved_blocks-between.ensures.last ∙ ap (λ k. times f.ops (f.number c.sub.result) (equality_weight f.ops zs (2 ^ k - 1))) (sym (length-map rest f.number)) ∙ ap (λ k. times f.ops k (equality_weight f.ops zs (Q - 1))) zeros in
    let middle : (j : ℕ) → j < s → times f.ops between (w (n - s + j)) ≡ times f.ops scale (whole (p - s + j)) = λ j below.
    let inner : n - s + j < n = omega (arith, c.requires.stride, below) in
    let row : (Q - 1) * n + (n - s + j) ≡ p - s + j = omega (arith, last, c.requires.stride) in
    ap (λ k. times f.ops k (w (n - s + j))) between_is ∙ times_assoc f.ops ring low_scale (equality_weight f.ops zs (Q - 1)) (w (n - s + j))
    ∙ ap (times f.ops low_scale) (sym (block-at f.ops ring n c.requires.some w zs (Q - 1) (n - s + j) inner) ∙ ap v row)
    ∙ share-low f.ops ring (f.number first) p v whole halves scale (p - s + j) (omega (arith, last, below, c.requires.stride)) in
    let lows = low_blocks rows outer n c.requires.size some in
    let highs = high_blocks rows outer n c.requires.size some c.add_moved_blocks-between.new.rows c.add_moved_blocks-between.auto.rows in
    let gain : ℕ → ℕ = moved_up s before (λ k. times f.ops scale (whole k)) in
    halves-added f.ops f.number rows c.add_moved_blocks-between.new.rows c.add_moved_blocks.new.rows _ p size c.add_moved_blocks-between.auto.rows c.add_moved_blocks.auto.rows gain
    (λ k below. c.add_moved_blocks-between.ensures.rows k (omega (arith, below, lows))
    ∙ ap (plus f.ops _) (up-same s before before _ _ p k (λ j _. refl)
    (λ i under. ap (λ m. times f.ops m (v i)) zeros ∙ share-low f.ops ring (f.number first) p v whole halves scale i under) below))
    (λ k below. c.add_moved_blocks.ensures.rows k (omega (arith, below, highs))
    ∙ ap (plus f.ops _) (up-high s p before (λ j. times f.ops between (w (n - s + j))) (λ i. times f.ops scale (whole i)) (λ i. times f.ops (f.number c.mul-at_one.result) (v i))
    (omega (arith, fits, c.requires.stride)) middle
    (λ i under. ap (λ m. times f.ops m (v i)) ones ∙ share-high f.ops ring (f.number first) p v whole halves scale i under) k below))
    b (subst (λ k. b < k) size inside)

pub returns-clause-last : goal.returns-clause-last
returns-clause-last g t c =
    let f = g.EF.Field in
    let ring = g.met.EF.Field.is_field.ring in
    let outer = c.args.outer.now in
    let first = c.first-item.result in
    let rest = take (length outer - 1) (drop 1 outer) in
    let split : outer ≡ first ∷ rest = split-first outer first (omega (arith, c.in-len1-up.len_at_least)) c.first-item.is in
    let zs = map f.number rest in
    let all = map f.number outer in
    let scale = f.number c.args.scale in
    c.add_moved_blocks.ensures.last
    ∙ ap (λ k. times f.ops k (equality_weight f.ops zs (2 ^ length rest - 1))) c.mul-at_one.ensures
    ∙ ap (λ k. times f.ops (times f.ops scale (f.number first)) (equality_weight f.ops zs (2 ^ k - 1))) (sym (length-map rest f.number))
    ∙ last-row f.ops ring (f.number first) (2 ^ length zs) (equality_weight f.ops zs) (equality_weight f.ops all) (split-weight f.ops ring (f.number first) zs all (ap (map f.number) split)) scale (2 ^ length all)
    (pow_pos (length zs)) (ap (λ l. 2 ^ length (map f.number l)) split ∙ two_halves (length zs))
    ∙ ap (λ k. times f.ops scale (equality_weight f.ops all (2 ^ k - 1))) (length-map outer f.number)
