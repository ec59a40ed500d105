use Rattle.std.proofs.Common.{rules, ◌≡◌, ℕ, ◌<◌, ◌≤◌, length, map, ◌∙◌, ap, subst}
use Rattle.sc_definitions.specs.Tables.{entries, value}
use Rattle.sc_table.proofs.BlockWeights.{parts-size, parts-size_of, parts-inner, parts-joined, blocks-value}
use Rattle.sc_table.proofs.blocks.eval_slice.Goals as goal

pub eval_blocks-requires-clause-size : goal.eval_blocks-requires-clause-size
eval_blocks-requires-clause-size g c =
    let parted = c.split_at.ensures in
    let rows : length c.block_weights-weights.result ≡ 256 = search rules in
    c.requires
    ∙ parts-size g.E.Field.number c.args.z.now c.split_at.result.0.now c.split_at.result.1.now c.block_weights-weights.result c.if-z-lt-BLOCK_COORDINATES.false parted.front parted.back rows

pub returns : goal.returns
returns g c =
    let e = g.E.Field in
    let of : g.row.A.Denot → ℕ = λ x. g.E.Algebra.embedding (g.A.Field.number x) in
    let z = c.args.z.now in
    let evals = c.args.evals.now in
    let outer = c.split_at.result.0.now in
    let inner = c.split_at.result.1.now in
    let weights = c.block_weights-weights.result in
    let parted = c.split_at.ensures in
    let long : 8 ≤ length z = c.if-z-lt-BLOCK_COORDINATES.false in
    let rows : length weights ≡ 256 = search rules in
    c.eval_blocks.ensures
    ∙ blocks-value e.ops g.met.E.Field.is_field.ring (map e.number outer) (map e.number inner) (length weights) (parts-inner e.number z outer inner weights long parted.front parted.back rows)
    (entries e.number weights) (λ b low. c.block_weights-weights.ensures b (subst (λ k. b < k) rows low)) (entries of evals) (length evals)
    (c.requires ∙ parts-size_of e.number z outer inner weights long parted.front parted.back rows)
    ∙ ap (value e.ops (entries of evals)) (parts-joined e.number z outer inner weights long parted.front parted.back rows)
