use Rattle.std.proofs.Common.{◌≡◌, length, take}
use Rattle.sc_constraints.specs.Groups.{all_statements}
use Rattle.sc_tables_statements_tests.proofs.tests.statements.claimed.count.Given as goal

abbrev pub invariant-loop-group : goal.invariant-loop-group
invariant-loop-group g l =
    l.count ≡ length (all_statements (λ x. g.EF.Algebra.embedding (g.F.Field.number x)) g.EF.Field.number (take l.group-index l.group-items))
