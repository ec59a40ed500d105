use Rattle.std.proofs.Common.{◌≡◌, take}
use Rattle.sc_definitions.specs.Tables.{inner_product}
use Rattle.sc_merged.specs.MergedViews.{left_in, pairs_in}
use Rattle.sc_merged.proofs.TotalLaws.{total}
use Rattle.sc_merged.proofs.tables.MergedTables.sum.Given as goal

abbrev pub invariant-loop-i : goal.invariant-loop-i
invariant-loop-i g l =
    let e = g.EF.Field in
    e.number l.sum ≡ total e.ops (λ p. inner_product e.ops (left_in l.self) p.table p.weights) (take l.i (pairs_in e.number l.self))
