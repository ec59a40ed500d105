use Rattle.std.proofs.Common.{◌≡◌, ◌^◌, length, map, ◌∙◌, ap, refl, arith, [], ◌∷◌}
use Rattle.sc_definitions.specs.Ring.{plus, times}
use Rattle.sc_definitions.specs.Tables.{equality_weight}
use Rattle.sc_definitions.proofs.RingLaws.{times-one}
use Rattle.sc_definitions.proofs.SuccessorLaws.{element-weight}
use Rattle.sc_definitions.proofs.Identity.{atom, nought, unit, ◌⊕◌, ◌⊗◌, Agree, identity}
use Rattle.sc_table.proofs.EntryLaws.{entry-replicate}
use Rattle.sc_table.proofs.blocks.block_weights.Goals as goal

pub returns : goal.returns
unfolding Agree
returns g c = λ b low.
    let e = g.E.Field in
    let met = g.met.E.Field in
    let ring = met.is_field.ring in
    let zs = map e.number c.args.z.now in
    let w = equality_weight e.ops zs b in
    let size : 2 ^ length c.args.z.now ≡ 256 = ap (λ k. 2 ^ k) c.requires.coordinates in
    c.add_equality.ensures b (omega (arith, low, size))
    ∙ ap (λ k. plus e.ops k (times e.ops (e.number c.ONE.result) w)) (entry-replicate e.number c.ZERO-weights.result 256 b (ap e.number c.ZERO-weights.ensures ∙ met.zero_is))
    ∙ ap (λ k. plus e.ops 0 (times e.ops k w)) (ap e.number c.ONE.ensures ∙ met.one_is)
    ∙ identity e.ops ring (w ∷ []) (nought ⊕ unit ⊗ atom 0) (atom 0 ⊗ unit) tt tt refl
    ∙ times-one e.ops ring w ∙ element-weight e.ops ring zs b
