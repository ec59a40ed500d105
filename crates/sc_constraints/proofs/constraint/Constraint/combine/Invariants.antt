use Rattle.std.proofs.Common.{◌≡◌}
use Rattle.sc_table.specs.Polys.{variables_of, table_of}
use Rattle.sc_constraints.specs.Groups.{group_statements}
use Rattle.sc_constraints.proofs.GroupSteps.{IsCombined}
use Rattle.sc_constraints.proofs.constraint.Constraint.combine.Given as goal

abbrev pub invariant-loop-group : goal.invariant-loop-group
invariant-loop-group g l =
    let f = g.EF.Field in
    record {
      variables : variables_of l.combined ≡ variables_of l.fn.combined;
      combined : IsCombined (group_statements (λ x. g.EF.Algebra.embedding (g.F.Field.number x)) f.number) f.ops l.self.num_variables (f.number l.self.challenge) l.self.initial_power l.group-items l.group-index
          (table_of f.number l.fn.combined) (table_of f.number l.combined) (f.number l.fn.eval) (f.number l.eval) (f.number l.coefficient);
    }
