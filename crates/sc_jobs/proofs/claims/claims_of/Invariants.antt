use Rattle.sc_constraints.specs.Constraints.{constraint_arity, constraint_challenge, constraint_power}
use Rattle.sc_jobs.proofs.ClaimLaws.{IsGathered}
use Rattle.sc_jobs.proofs.claims.claims_of.Given as goal

abbrev pub invariant-loop-group : goal.invariant-loop-group
invariant-loop-group g l =
    let N = g.EF.Field.number in
    IsGathered (λ (x : g.row.F.Denot). g.EF.Algebra.embedding (g.F.Field.number x)) N g.EF.Field.ops (constraint_challenge N l.constraint) (constraint_power l.constraint) (constraint_arity l.constraint)
    l.group-items l.group-index l.claimed (N l.coefficient)
