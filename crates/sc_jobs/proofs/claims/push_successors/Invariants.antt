use Rattle.std.proofs.Common.{drop}
use Rattle.sc_statements.specs.NextStatements.{next_arity, next_statements}
use Rattle.sc_jobs.proofs.ClaimLaws.{IsPushed}
use Rattle.sc_jobs.proofs.claims.push_successors.Given as goal

abbrev pub invariant-loop-i : goal.invariant-loop-i
invariant-loop-i g l =
    let N = g.EF.Field.number in
    IsPushed N g.EF.Field.ops (N l.challenge) (next_arity l.statement) l.fn.claimed l.claimed (next_statements N l.statement) (drop l.i (next_statements N l.statement)) l.i (N l.fn.first)
    (N l.coefficient)
