use Rattle.std.proofs.Common.{sym, ◌∙◌, arith}
use Rattle.sc_merge_definitions.proofs.PlaceLaws.{first-next, first-here, first-end}
use Rattle.sc_openings.proofs.values.first_false.Goals as goal

-- a false entry
pub returns-then-claimed-actual : goal.returns-then-claimed-actual
returns-then-claimed-actual g c =
    sym
    (c.loop-statement.invariant
    ∙ first-here g.EF.Field.number c.loop-statement.statement c.args.claimed.now c.args.truths.now c.loop-statement-test.true (omega (arith, c.loop-statement-test.true, c.requires))
    c.index-claimed-statement.is c.index-truths-statement.is c.index-claimed.ensures c.index-actual.ensures c.if-claimed-actual.true)

-- a true one
pub loop-statement-preserved : goal.loop-statement-preserved
loop-statement-preserved g c =
    c.loop-statement.invariant
    ∙ first-next g.EF.Field.number c.loop-statement.statement c.args.claimed.now c.args.truths.now c.loop-statement-test.true (omega (arith, c.loop-statement-test.true, c.requires))
    c.index-claimed-statement.is c.index-truths-statement.is c.index-claimed.ensures c.index-actual.ensures c.if-claimed-actual.false

pub returns : goal.returns
returns g c =
    sym (c.loop-statement.invariant ∙ first-end g.EF.Field.number c.loop-statement.statement c.args.claimed.now c.args.truths.now (omega (arith, c.loop-statement-test.false)))
