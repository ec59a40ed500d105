use Rattle.std.proofs.Common.{◌≡◌, ◌+◌, drop}
use Rattle.sc_statements.specs.NextStatements.{next_statements}
use Rattle.sc_jobs.specs.Refusals.{first_unfit}
use Rattle.sc_jobs.proofs.fit.unfit_successor.Given as goal

abbrev pub invariant-loop-i : goal.invariant-loop-i
invariant-loop-i g l =
    first_unfit l.passed (next_statements g.EF.Field.number l.statement) ≡ first_unfit (l.passed + l.i) (drop l.i (next_statements g.EF.Field.number l.statement))
