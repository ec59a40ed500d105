use Rattle.std.proofs.Common.{◌≡◌, map, drop}
use Rattle.sc_definitions.specs.Ring.{plus}
use Rattle.sc_table.specs.Strategy.{order_of}
use Rattle.sc_constraints.specs.ConstraintValues.{constraints_value}
use Rattle.sc_rounds.proofs.eval_constraints.VariableOrderEvalConstraints.eval_constraints_poly.Given as goal

abbrev pub invariant-loop-constraint : goal.invariant-loop-constraint
invariant-loop-constraint g l =
    let f = g.EF.Field in
    let rs = map f.number l.challenge in
    plus f.ops (f.number l.sum) (constraints_value f.ops (λ x. g.EF.Algebra.embedding (g.F.Field.number x)) f.number (order_of l.self) rs (drop l.constraint-index l.constraints))
    ≡ constraints_value f.ops (λ x. g.EF.Algebra.embedding (g.F.Field.number x)) f.number (order_of l.self) rs l.constraints
