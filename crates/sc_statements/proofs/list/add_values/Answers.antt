use Rattle.std.proofs.Common.{refl, ◌<◌, ◌≤◌, length, ◌∙◌, ap, arith}
use Rattle.sc_definitions.specs.Ring.{plus}
use Rattle.sc_statements.proofs.BatchSteps.{IsSummed-none, sum-more, summed-all, summed-next}
use Rattle.sc_statements.proofs.list.add_values.Goals as goal

pub loop-i-init : goal.loop-i-init
loop-i-init g c = λ p is.
    IsSummed-none g.EF.Field.ops g.met.EF.Field.is_field.ring (g.met.EF.Field.number_below c.args.sum.now) refl is

pub loop-i-preserved : goal.loop-i-preserved
loop-i-preserved g c = λ p is.
    let f = g.EF.Field in
    let ss = g.S.StatementList.statements c.args.statements.now in
    let l = c.loop-i in
    let low : l.i < length ss = omega (arith, c.loop-i-test.true, c.count-i-end.ensures) in
    sum-more f.ops g.met.EF.Field.is_field.ring (f.number c.args.challenge) p ss l.i low _ (f.number l.sum) _ (f.number c.claim_at.result) (f.number l.coefficient) _ (l.invariant p is)
    c.claim_at.ensures (c.add.ensures ∙ ap (plus f.ops (f.number l.sum)) c.mul.ensures) c.mul-coefficient.ensures

pub returns-clause-added : goal.returns-clause-added
returns-clause-added g c = λ p is.
    let past : length (g.S.StatementList.statements c.args.statements.now) ≤ c.loop-i.i = omega (arith, c.loop-i-test.false, c.count-i-end.ensures) in
    summed-all g.EF.Field.ops _ p _ c.loop-i.i past _ _ _ (c.loop-i.invariant p is)

pub returns-clause-next : goal.returns-clause-next
returns-clause-next g c = λ p is.
    let past : length (g.S.StatementList.statements c.args.statements.now) ≤ c.loop-i.i = omega (arith, c.loop-i-test.false, c.count-i-end.ensures) in
    summed-next g.EF.Field.ops _ p _ c.loop-i.i past _ _ _ (c.loop-i.invariant p is)
