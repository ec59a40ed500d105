use Rattle.std.proofs.Common.{◌≡◌, map, take}
use Rattle.sc_definitions.specs.Tables.{entries}
use Rattle.sc_definitions.specs.Lucky.{after_zeros, excess}
use Rattle.sc_constraints.specs.Groups.{all_statements}
use Rattle.sc_constraints.proofs.constraint.Constraint.batch_polynomial.Given as goal

abbrev pub invariant-loop-group : goal.invariant-loop-group
invariant-loop-group g l =
    let f = g.EF.Field in
    map f.number l.coefficients.items ≡ after_zeros l.self.initial_power
    (map (excess f.ops l.self.num_variables (λ b. g.EF.Algebra.embedding (entries g.F.Field.number l.rows b)))
    (all_statements (λ x. g.EF.Algebra.embedding (g.F.Field.number x)) f.number (take l.group-index l.group-items)))
