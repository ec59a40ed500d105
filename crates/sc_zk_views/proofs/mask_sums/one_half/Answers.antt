use Rattle.std.proofs.Common.{sym, ◌∙◌, ap}
use Rattle.sc_definitions.specs.Ring.{plus, times}
use Rattle.sc_definitions.proofs.RingLaws.{element-plus}
use Rattle.sc_zk_rounds.proofs.HalfLaws.{inverse-only}
use Rattle.sc_zk_views.proofs.mask_sums.one_half.Goals as goal

pub returns-in-Some-clause-half : goal.returns-in-Some-clause-half
returns-in-Some-clause-half g c =
    ap (λ n. times g.EF.Field.ops n (g.EF.Field.number c.in-Some.half)) (sym (ap g.EF.Field.number c.TWO.ensures ∙ g.met.EF.Field.two_is)) ∙ c.in-Some.ensures.product

pub returns-in-Some-clause-number : goal.returns-in-Some-clause-number
returns-in-Some-clause-number g c =
    let o = g.EF.Field.ops in
    let field = g.met.EF.Field.is_field in
    let half = g.EF.Field.number c.in-Some.half in
    inverse-only o field (plus o 1 1) (λ z. c.requires (sym (element-plus o field.ring 1 1) ∙ z)) half (g.met.EF.Field.number_below c.in-Some.half)
    (ap (λ n. times o n half) (sym (ap g.EF.Field.number c.TWO.ensures ∙ g.met.EF.Field.two_is)) ∙ c.in-Some.ensures.product)
