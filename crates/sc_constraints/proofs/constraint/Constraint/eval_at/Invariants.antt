use Rattle.std.proofs.Common.{map, take}
use Rattle.std.specs.List.{flat_map}
use Rattle.sc_table.specs.Strategy.{basis_of}
use Rattle.sc_constraints.specs.Groups.{group_statements}
use Rattle.sc_statements.proofs.BatchSteps.{IsSummed}
use Rattle.sc_statements.proofs.BatchValues.{valued}
use Rattle.sc_constraints.proofs.constraint.Constraint.eval_at.Given as goal

abbrev pub invariant-loop-group : goal.invariant-loop-group
invariant-loop-group g l =
    let f = g.EF.Field in
    IsSummed f.ops (f.number l.self.challenge) l.self.initial_power
    (flat_map (λ x. map (valued (basis_of l.basis) f.ops (map f.number l.row)) (group_statements (λ x. g.EF.Algebra.embedding (g.F.Field.number x)) f.number x)) (take l.group-index l.group-items))
    0 (f.number l.sum) (f.number l.coefficient)
