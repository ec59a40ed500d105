use Rattle.std.proofs.Common.{rules, ◌≡◌, ◌*◌, ◌^◌, ◌<◌, ◌≤◌, length, map, ◌∙◌, ap, sym, subst}
use Rattle.sc_definitions.specs.Ring.{plus, times}
use Rattle.sc_definitions.specs.Tables.{entries, equality_weight}
use Rattle.sc_table.proofs.BlockWeights.{parts-size, parts-size_of, parts-inner, parts-joined, blocks-joined}
use Rattle.sc_weights.proofs.equality.add_point.Goals as goal

pub add_blocks-requires-clause-size : goal.add_blocks-requires-clause-size
add_blocks-requires-clause-size g c =
    let parted = c.split_at.ensures in
    let many : length c.block_weights-weights.result ≡ 256 = search rules in
    c.requires
    ∙ parts-size g.EF.Field.number c.args.z.now c.split_at.result.0.now c.split_at.result.1.now c.block_weights-weights.result c.if-z-lt-BLOCK_COORDINATES.false parted.front parted.back many

pub returns : goal.returns
returns g c = λ b low.
    let f = g.EF.Field in
    let z = c.args.z.now in
    let outer = c.split_at.result.0.now in
    let inner = c.split_at.result.1.now in
    let weights = c.block_weights-weights.result in
    let parted = c.split_at.ensures in
    let long : 8 ≤ length z = c.if-z-lt-BLOCK_COORDINATES.false in
    let many : length weights ≡ 256 = search rules in
    let inside : b < 2 ^ length (map f.number outer) * length weights = subst (λ k. b < k) (parts-size_of f.number z outer inner weights long parted.front parted.back many) low in
    c.add_blocks.ensures b (subst (λ k. b < k) (sym c.requires) low)
    ∙ ap (λ k. plus f.ops (entries f.number c.args.rows.now b) (times f.ops (f.number c.args.scale) k))
    (blocks-joined f.ops g.met.EF.Field.is_field.ring (map f.number outer) (map f.number inner) (length weights) (parts-inner f.number z outer inner weights long parted.front parted.back many)
    (entries f.number weights) (λ k below. c.block_weights-weights.ensures k (subst (λ m. k < m) many below)) b inside
    ∙ ap (λ l. equality_weight f.ops l b) (parts-joined f.number z outer inner weights long parted.front parted.back many))
