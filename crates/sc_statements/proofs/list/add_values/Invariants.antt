use Rattle.std.proofs.Common.{◌≡◌, ℕ, take}
use Rattle.sc_definitions.specs.Ring.{power}
use Rattle.sc_statements.proofs.BatchSteps.{IsSummed}
use Rattle.sc_statements.proofs.list.add_values.Given as goal

abbrev pub invariant-loop-i : goal.invariant-loop-i
invariant-loop-i g l =
    let f = g.EF.Field in
    (p : ℕ) → f.number l.fn.first ≡ power f.ops (f.number l.challenge) p →
    IsSummed f.ops (f.number l.challenge) p (take l.i (g.S.StatementList.statements l.statements)) (f.number l.fn.sum) (f.number l.sum) (f.number l.coefficient)
