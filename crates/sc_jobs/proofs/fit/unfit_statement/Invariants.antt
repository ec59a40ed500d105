use Rattle.sc_constraints.specs.Groups.{group_statements}
use Rattle.sc_jobs.proofs.UnfitLaws.{IsPassed}
use Rattle.sc_jobs.proofs.fit.unfit_statement.Given as goal

abbrev pub invariant-loop-group : goal.invariant-loop-group
invariant-loop-group g l = IsPassed (group_statements (λ x. g.EF.Algebra.embedding (g.F.Field.number x)) g.EF.Field.number) l.group-items l.group-index l.passed
