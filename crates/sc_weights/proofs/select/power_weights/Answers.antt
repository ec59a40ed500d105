use Rattle.std.proofs.Common.{◌∙◌, ap, refl, [], ◌∷◌}
use Rattle.sc_definitions.specs.Ring.{plus, times, power}
use Rattle.sc_definitions.proofs.RingLaws.{times-one}
use Rattle.sc_definitions.proofs.Power.{element-power}
use Rattle.sc_definitions.proofs.Identity.{atom, nought, unit, ◌⊕◌, ◌⊗◌, Agree, identity}
use Rattle.sc_table.proofs.EntryLaws.{entry-replicate}
use Rattle.sc_weights.proofs.select.power_weights.Goals as goal

pub returns : goal.returns
unfolding Agree
returns g c = λ b low.
    let f = g.EF.Field in
    let met = g.met.EF.Field in
    let ring = met.is_field.ring in
    let z = g.EF.Algebra.embedding (g.F.Field.number c.args.var) in
    let w = power f.ops z b in
    c.add_powers_by_rows.ensures b low
    ∙ ap (λ k. plus f.ops k (times f.ops (f.number c.ONE.result) w)) (entry-replicate f.number c.ZERO-weights.result 256 b (ap f.number c.ZERO-weights.ensures ∙ met.zero_is))
    ∙ ap (λ k. plus f.ops 0 (times f.ops k w)) (ap f.number c.ONE.ensures ∙ met.one_is)
    ∙ identity f.ops ring (w ∷ []) (nought ⊕ unit ⊗ atom 0) (atom 0 ⊗ unit) tt tt refl
    ∙ times-one f.ops ring w ∙ element-power f.ops ring z b
