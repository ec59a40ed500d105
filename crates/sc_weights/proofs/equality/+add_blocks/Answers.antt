use Rattle.std.proofs.Common.{rules, ◌≡◌, ℕ, ◌+◌, ◌-◌, ◌*◌, ◌^◌, ◌<◌, ◌≤◌, ◌∷◌, length, map, take, drop, ◌∙◌, ap, subst, arith}
use Rattle.std.proofs.lemmas.List.{length-map}
use Rattle.sc_definitions.specs.Ring.{plus, times, minus}
use Rattle.sc_definitions.specs.Tables.{entries}
use Rattle.sc_table.specs.Blocks.{block_weight}
use Rattle.sc_table.proofs.BlockWeights.{IsSplit, split-first, two_blocks, split-blocks}
use Rattle.sc_weights.proofs.Halves.{halves-added, low_blocks, high_blocks}
use Rattle.sc_weights.proofs.NextSteps.{share-low, share-high, gain-alone}
use Rattle.sc_weights.proofs.equality.+add_blocks.Goals as goal

pub returns-in_default : goal.returns-in_default
returns-in_default g t c = λ b low.
    let f = g.EF.Field in
    let outer = c.args.outer.now in
    let n = length c.args.weights.now in
    let none : length outer ≡ 0 = omega (arith, c.in_default.len_below) in
    let size : length c.args.rows.now ≡ n = c.requires.size ∙ ap (λ k. 2 ^ k * n) none ∙ omega arith in
    c.add_scaled.ensures b low
    ∙ ap (plus f.ops _) (gain-alone f.ops g.met.EF.Field.is_field.ring (f.number c.args.scale) (map f.number outer) n (entries f.number c.args.weights.now) c.requires.some
    (omega (arith, none, length-map outer f.number)) b (subst (λ k. b < k) size low))

pub add_blocks-requires : goal.add_blocks-requires
add_blocks-requires g t c κs within = (
  search rules,
  (within, (low_blocks c.args.rows.now c.args.outer.now (length c.args.weights.now) c.requires.size c.in-len1-up.len_at_least, c.requires.some)),
)

pub add_blocks-requires-2 : goal.add_blocks-requires-2
add_blocks-requires-2 g t c κs within = (
  search rules,
  (within, (high_blocks c.args.rows.now c.args.outer.now (length c.args.weights.now) c.requires.size c.in-len1-up.len_at_least c.add_blocks.new.rows c.add_blocks.auto.rows, c.requires.some)),
)

pub returns : goal.returns
returns g t c = λ b inside.
    let f = g.EF.Field in
    let ring = g.met.EF.Field.is_field.ring in
    let rows = c.args.rows.now in
    let outer = c.args.outer.now in
    let weights = c.args.weights.now in
    let n = length weights in
    let w = entries f.number weights in
    let first = c.first-item.result in
    let rest = take (length outer - 1) (drop 1 outer) in
    let some : 1 ≤ length outer = omega (arith, c.in-len1-up.len_at_least) in
    let split : outer ≡ first ∷ rest = split-first outer first some c.first-item.is in
    let zs = map f.number rest in
    let all = map f.number outer in
    let scale = f.number c.args.scale in
    let p = 2 ^ length rest * n in
    let v = block_weight f.ops zs n w in
    let whole = block_weight f.ops all n w in
    let sized : 2 ^ length zs * n ≡ p = ap (λ k. 2 ^ k * n) (length-map rest f.number) in
    let size : length rows ≡ p + p = two_blocks rows outer n c.requires.size some in
    let halves : IsSplit f.ops (f.number first) p v whole = subst (λ k. IsSplit f.ops (f.number first) k v whole) sized (split-blocks f.ops ring n c.requires.some w (f.number first) zs all (ap (map f.number) split)) in
    let ones : f.number c.mul-at_one.result ≡ times f.ops scale (f.number first) = c.mul-at_one.ensures in
    let zeros : f.number c.sub.result ≡ minus f.ops scale (times f.ops scale (f.number first)) = c.sub.ensures ∙ ap (minus f.ops scale) ones in
    let gain : ℕ → ℕ = λ k. times f.ops scale (whole k) in
    let lows = low_blocks rows outer n c.requires.size some in
    let highs = high_blocks rows outer n c.requires.size some c.add_blocks.new.rows c.add_blocks.auto.rows in
    halves-added f.ops f.number rows c.add_blocks.new.rows c.add_blocks-2.new.rows _ p size c.add_blocks.auto.rows c.add_blocks-2.auto.rows gain
    (λ k below. c.add_blocks.ensures k (omega (arith, below, lows))
    ∙ ap (plus f.ops _) (ap (λ s. times f.ops s (v k)) zeros ∙ share-low f.ops ring (f.number first) p v whole halves scale k below))
    (λ k below. c.add_blocks-2.ensures k (omega (arith, below, highs))
    ∙ ap (plus f.ops _) (ap (λ s. times f.ops s (v k)) ones ∙ share-high f.ops ring (f.number first) p v whole halves scale k below))
    b (subst (λ k. b < k) size inside)
