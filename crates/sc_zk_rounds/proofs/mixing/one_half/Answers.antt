use Rattle.std.proofs.Common.{sym, ◌∙◌, ap}
use Rattle.sc_definitions.specs.Ring.{plus, times}
use Rattle.sc_definitions.proofs.RingLaws.{element-plus}
use Rattle.sc_zk_rounds.proofs.HalfLaws.{two-kept, inverse-only}
use Rattle.sc_zk_rounds.proofs.mixing.one_half.Goals as goal

pub returns-in-Some-clause-half : goal.returns-in-Some-clause-half
returns-in-Some-clause-half g c =
    ap (λ n. times g.EF.Field.ops n (g.EF.Field.number c.in-Some.half)) (sym (ap g.EF.Field.number c.TWO.ensures ∙ g.met.EF.Field.two_is)) ∙ c.in-Some.ensures.product

pub returns-in-Some-clause-number : goal.returns-in-Some-clause-number
returns-in-Some-clause-number g c =
    let o = g.EF.Field.ops in
    let two = two-kept g.F.Field.ops o g.EF.Algebra.embedding g.met.F.Field.is_field g.met.EF.Field.is_field g.met.EF.Algebra.embeds c.requires in
    inverse-only o g.met.EF.Field.is_field (plus o 1 1) (λ z. two (sym (element-plus o g.met.EF.Field.is_field.ring 1 1) ∙ z))
    (g.EF.Field.number c.in-Some.half) (g.met.EF.Field.number_below c.in-Some.half)
    (ap (λ n. times o n (g.EF.Field.number c.in-Some.half)) (sym (ap g.EF.Field.number c.TWO.ensures ∙ g.met.EF.Field.two_is)) ∙ c.in-Some.ensures.product)

pub returns-in-None-clause-half : goal.returns-in-None-clause-half
returns-in-None-clause-half g c =
    absurd (two-kept g.F.Field.ops g.EF.Field.ops g.EF.Algebra.embedding g.met.F.Field.is_field g.met.EF.Field.is_field g.met.EF.Algebra.embeds c.requires
    (sym (ap g.EF.Field.number c.TWO.ensures ∙ g.met.EF.Field.two_is) ∙ c.inverse.ensures.none.0 c.in-None.is))

pub returns-in-None-clause-number : goal.returns-in-None-clause-number
returns-in-None-clause-number g c =
    absurd (two-kept g.F.Field.ops g.EF.Field.ops g.EF.Algebra.embedding g.met.F.Field.is_field g.met.EF.Field.is_field g.met.EF.Algebra.embeds c.requires
    (sym (ap g.EF.Field.number c.TWO.ensures ∙ g.met.EF.Field.two_is) ∙ c.inverse.ensures.none.0 c.in-None.is))
