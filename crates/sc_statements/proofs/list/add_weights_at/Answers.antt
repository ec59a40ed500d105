use Rattle.std.proofs.Common.{refl, ◌<◌, ◌≤◌, length, map, ◌∙◌, ap, arith}
use Rattle.sc_definitions.specs.Ring.{plus}
use Rattle.sc_table.specs.Strategy.{basis_of}
use Rattle.sc_statements.proofs.BatchSteps.{IsSummed-none}
use Rattle.sc_statements.proofs.BatchValues.{value-more, value-end, next-end}
use Rattle.sc_statements.proofs.list.add_weights_at.Goals as goal

pub loop-i-init : goal.loop-i-init
loop-i-init g c = λ p is.
    IsSummed-none g.EF.Field.ops g.met.EF.Field.is_field.ring (g.met.EF.Field.number_below c.args.sum.now) refl is

pub loop-i-preserved : goal.loop-i-preserved
loop-i-preserved g c = λ p is.
    let f = g.EF.Field in
    let ss = g.S.StatementList.statements c.args.statements.now in
    let l = c.loop-i in
    let low : l.i < length ss = omega (arith, c.loop-i-test.true, c.count-i-end.ensures) in
    value-more f.ops g.met.EF.Field.is_field.ring (basis_of c.args.basis) (f.number c.args.challenge) p (map f.number c.args.row.now) ss l.i low _ (f.number l.sum) _ (f.number c.weight_at.result) (f.number l.coefficient) _ (l.invariant p is)
    c.weight_at.ensures (c.add.ensures ∙ ap (plus f.ops (f.number l.sum)) c.mul.ensures) c.mul-coefficient.ensures

pub returns-clause-added : goal.returns-clause-added
returns-clause-added g c = λ p is.
    let past : length (g.S.StatementList.statements c.args.statements.now) ≤ c.loop-i.i = omega (arith, c.loop-i-test.false, c.count-i-end.ensures) in
    value-end g.EF.Field.ops g.met.EF.Field.is_field.ring (basis_of c.args.basis) _ p _ _ c.loop-i.i _ _ _ (c.loop-i.invariant p is) past

pub returns-clause-next : goal.returns-clause-next
returns-clause-next g c = λ p is.
    let past : length (g.S.StatementList.statements c.args.statements.now) ≤ c.loop-i.i = omega (arith, c.loop-i-test.false, c.count-i-end.ensures) in
    next-end g.EF.Field.ops g.met.EF.Field.is_field.ring (basis_of c.args.basis) _ p (map g.EF.Field.number c.args.row.now) _ c.loop-i.i _ _ _ (c.loop-i.invariant p is) past
