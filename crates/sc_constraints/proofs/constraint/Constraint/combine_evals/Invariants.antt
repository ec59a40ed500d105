use Rattle.std.proofs.Common.{take}
use Rattle.sc_constraints.specs.Groups.{all_statements}
use Rattle.sc_statements.proofs.BatchSteps.{IsSummed}
use Rattle.sc_constraints.proofs.constraint.Constraint.combine_evals.Given as goal

abbrev pub invariant-loop-group : goal.invariant-loop-group
invariant-loop-group g l =
    let f = g.EF.Field in
    IsSummed f.ops (f.number l.self.challenge) l.self.initial_power (all_statements (λ x. g.EF.Algebra.embedding (g.F.Field.number x)) f.number (take l.group-index l.group-items))
    (f.number l.fn.eval) (f.number l.eval) (f.number l.coefficient)
