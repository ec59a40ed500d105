use Rattle.std.proofs.Common.{sym, ◌∙◌, arith}
use Rattle.sc_openings.proofs.ValueLaws.{same-next, same-other, same-end}
use Rattle.sc_openings.proofs.openings.are_same.Goals as goal

-- two differ
pub returns-then-index : goal.returns-then-index
returns-then-index g c =
    let i = c.loop-i.i in
    sym
    (c.loop-i.invariant
    ∙ same-other g.EF.Field.number i c.args.values.now c.args.others.now c.loop-i-test.true
    (omega (arith, c.loop-i-test.true, c.requires)) c.index-values-i.is c.index-others-i.is (λ e. c.if-index.true (c.index.ensures ∙ e ∙ sym c.index-in-loop-i.ensures)))

pub loop-i-preserved : goal.loop-i-preserved
loop-i-preserved g c =
    let i = c.loop-i.i in
    c.loop-i.invariant
    ∙ same-next g.EF.Field.number i c.args.values.now c.args.others.now c.loop-i-test.true
    (omega (arith, c.loop-i-test.true, c.requires)) c.index-values-i.is c.index-others-i.is (sym c.index.ensures ∙ c.if-index.false ∙ c.index-in-loop-i.ensures)

pub returns : goal.returns
returns g c =
    sym
    (c.loop-i.invariant
    ∙ same-end g.EF.Field.number c.loop-i.i c.args.values.now c.args.others.now (omega (arith, c.loop-i-test.false)) (omega (arith, c.loop-i-test.false, c.requires)))
