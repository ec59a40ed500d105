use Rattle.std.proofs.Common.{length}
use Rattle.sc_statements.specs.EqStatements.{eq_arity, eq_statements}
use Rattle.sc_statements.specs.EqIterators.{pairs_left}
use Rattle.sc_jobs.proofs.ClaimLaws.{IsPushed}
use Rattle.sc_jobs.proofs.claims.push_values.Given as goal

abbrev pub invariant-loop-point : goal.invariant-loop-point
invariant-loop-point g l =
    let N = g.EF.Field.number in
    IsPushed N g.EF.Field.ops (N l.challenge) (eq_arity l.statement) l.fn.claimed l.claimed (eq_statements N l.statement) (pairs_left N l.point-iterator) (length l.yielded) (N l.fn.first)
    (N l.coefficient)
