use Rattle.std.proofs.Common.{ℕ, List, length, ◌≡◌}
use Rattle.sc_definitions.specs.Tables.{entries}
use Rattle.sc_table.specs.Strategy.{order_of}
use Rattle.sc_partials.specs.Partials.{opened}
use Rattle.sc_svo.proofs.ClaimLaws.{HasAdded}
use Rattle.sc_svo.proofs.together.add_weighted.Given as goal

abbrev pub invariant-loop-j : goal.invariant-loop-j
invariant-loop-j g l = (zs : List ℕ) → length zs ≡ l.fn.variables →
    HasAdded g.EF.Field.number g.EF.Field.ops (opened (order_of l.fn.order) (entries (λ x. g.EF.Algebra.embedding (g.F.Field.number x)) l.fn.table) zs)
    (entries g.EF.Field.number l.fn.weights) l.fn.sums l.j l.sums
