use Rattle.std.proofs.Common.{◌≡◌, ℕ, ◌<◌, length, map, take, take_all, get_or, ◌∙◌, ap, sym, subst, arith}
use Rattle.sc_definitions.specs.Ring.{element}
use Rattle.sc_definitions.specs.Polynomials.{AllZero}
use Rattle.sc_definitions.proofs.RingLaws.{element-zero, element-small}
use Rattle.sc_audit.proofs.LuckFound.{zeros-more, zeros-at}
use Rattle.sc_audit.proofs.verdict.is_zero.Goals as goal

pub returns-then-index-ne0 : goal.returns-then-index-ne0
returns-then-index-ne0 g c =
    let e = g.EF.Field in
    let ring = g.met.EF.Field.is_field.ring in
    let xs = c.args.coefficients.now in
    let i = c.loop-coefficient.coefficient-index in
    let x = c.coefficient-item.result in (
      λ none. cc,
      λ all. absurd (c.if-index-ne0.true (c.index.ensures ∙ sym (element-small e.ops ring (e.number x) (g.met.EF.Field.number_below x))
          ∙ ap (λ y. element e.ops (e.number y)) c.coefficient-item.is ∙ zeros-at e.ops e.number xs i x c.loop-coefficient-test.true all)),
    )

pub loop-coefficient-preserved : goal.loop-coefficient-preserved
loop-coefficient-preserved g c =
    let e = g.EF.Field in
    let ring = g.met.EF.Field.is_field.ring in
    let x = c.coefficient-item.result in
    zeros-more e.ops e.number c.args.coefficients.now c.loop-coefficient.coefficient-index x c.loop-coefficient-test.true c.coefficient-item.is c.loop-coefficient.invariant
    (ap (element e.ops) (sym c.index.ensures ∙ c.if-index-ne0.false) ∙ element-zero e.ops ring)
