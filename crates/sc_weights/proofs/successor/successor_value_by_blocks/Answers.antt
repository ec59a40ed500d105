use Rattle.std.proofs.Common.{rules, ◌≡◌, ℕ, ◌+◌, ◌-◌, ◌*◌, ◌^◌, ◌<◌, ◌≤◌, ◌++◌, length, map, take, drop, ◌∙◌, ap, subst, arith, pow-add}
use Rattle.std.proofs.lemmas.List.{length-map}
use Rattle.std.proofs.lemmas.Nat.{pow_pos}
use Rattle.sc_definitions.specs.Tables.{entries, value}
use Rattle.sc_definitions.proofs.TableLaws.{value-same}
use Rattle.sc_table.proofs.BlockWeights.{ends-size, ends-inner, ends-joined, blocks-value, value-parts}
use Rattle.sc_weights.specs.Moved.{moved_down}
use Rattle.sc_weights.proofs.Halves.{block-fits, end-given, last-of, eight-few}
use Rattle.sc_weights.proofs.NextValues.{down-next}
use Rattle.sc_weights.proofs.successor.successor_value_by_blocks.Goals as goal

pub moved_blocks_value-requires-clause-size : goal.moved_blocks_value-requires-clause-size
moved_blocks_value-requires-clause-size g c =
    let of = g.EF.Field.number in
    let point = c.args.point.now in
    let selector = c.args.selector.now in
    let outer = c.split_at.result.0.now in
    let weights = c.joined_block_weights-weights.result in
    let parted = c.split_at.ensures in
    let many : length weights ≡ 256 = search rules in
    let long : 8 ≤ length point + length selector = eight-few (length c.args.rows.now) (length point + length selector) c.requires.long c.requires.size in
    c.requires.size ∙ ends-size of point selector outer c.split_at.result.1.now weights c.requires.short long parted.front parted.back many
    ∙ ap (λ k. 2 ^ k * length weights) (length-map outer of)

pub returns : goal.returns
returns g c =
    let f = g.EF.Field in
    let embed = g.EF.Algebra.embedding in
    let of : g.row.A.Denot → ℕ = g.A.Field.number in
    let ring = g.met.EF.Field.is_field.ring in
    let rows = c.args.rows.now in
    let point = c.args.point.now in
    let selector = c.args.selector.now in
    let outer = c.split_at.result.0.now in
    let inner = c.split_at.result.1.now in
    let weights = c.joined_block_weights-weights.result in
    let parted = c.split_at.ensures in
    let many : length weights ≡ 256 = search rules in
    let N = length rows in
    let p = length point in
    let k = length selector in
    let m = 2 ^ k in
    let at = N - c.args.block in
    let long : 8 ≤ p + k = eight-few N (p + k) c.requires.long c.requires.size in
    let zs = map f.number point in
    let ss = map f.number selector in
    let inners = map f.number inner ++ ss in
    let v : ℕ → ℕ = λ b. embed (entries of rows b) in
    let last : ℕ → ℕ = λ j. embed (entries of (take (N - at) (drop at rows)) j) in
    let sel : 2 ^ length ss ≡ m = ap (λ n. 2 ^ n) (length-map selector f.number) in
    let tall : 2 ^ length zs ≡ 2 ^ p = ap (λ n. 2 ^ n) (length-map point f.number) in
    let whole : N ≡ 2 ^ p * m = c.requires.size ∙ pow-add 2 p k in
    let fits = block-fits p k N c.args.block c.requires.size c.requires.block in
    let start : at ≡ (2 ^ p - 1) * m = omega (arith, whole, last-of (2 ^ p) m (pow_pos p), c.requires.block) in
    let left : N - at ≡ m = omega (arith, fits, c.requires.block) in
    let size : N ≡ 2 ^ length (map f.number outer) * length weights = c.requires.size ∙ ends-size f.number point selector outer inner weights c.requires.short long parted.front parted.back many in
    c.moved_blocks_value.ensures
    ∙ blocks-value f.ops ring (map f.number outer) inners (length weights) (ends-inner f.number point selector outer inner weights c.requires.short long parted.front parted.back many)
    (entries f.number weights) (λ i below. c.joined_block_weights-weights.ensures i (subst (λ n. i < n) many below)) (moved_down N c.args.block last v) N size
    ∙ ap (value f.ops (moved_down N c.args.block last v)) (ends-joined f.number point selector outer inner weights c.requires.short long parted.front parted.back many)
    ∙ value-parts f.ops ring (moved_down N c.args.block last v) zs ss
    ∙ value-same f.ops _ _ zs (λ a la. value-same f.ops _ _ ss (λ e le.
    ap (λ n. moved_down N c.args.block last v (a * n + e)) sel
    ∙ ap (λ n. moved_down N n last v (a * m + e)) c.requires.block
    ∙ down-next p m N v last whole (λ j below. ap embed (end-given of rows at (N - at) j (omega (arith, below, left)) ∙ ap (λ n. entries of rows (n + j)) start)) a e
    (omega (arith, la, tall)) (omega (arith, le, sel))))
