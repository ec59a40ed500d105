use Rattle.sc_definitions.specs.Ring.{times}
use Rattle.sc_definitions.specs.Tables.{entries, equality_weight}
use Rattle.sc_partials.specs.Partials.{opened}
use Rattle.sc_svo.specs.Points.{order_in, point_in}
use Rattle.sc_svo.proofs.ClaimLaws.{HasAdded}
use Rattle.sc_svo.proofs.claims.add_equality.Given as goal

abbrev pub invariant-loop-j : goal.invariant-loop-j
invariant-loop-j g l =
    let e = g.EF.Field in
    HasAdded e.number e.ops (opened (order_in l.fn.point) (entries (λ x. g.EF.Algebra.embedding (g.F.Field.number x)) l.fn.table) (point_in l.fn.point))
    (λ b. times e.ops (e.number l.fn.coefficient) (equality_weight e.ops (point_in l.fn.point) b)) l.fn.sums l.j l.sums
