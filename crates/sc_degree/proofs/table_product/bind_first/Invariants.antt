use Rattle.sc_degree.proofs.FixedTables.{AreFixed}
use Rattle.sc_degree.proofs.table_product.bind_first.Given as goal

abbrev pub invariant-loop-table : goal.invariant-loop-table
invariant-loop-table g l =
    let e = g.EF.Field in
    AreFixed e.ops e.number (e.number l.r) l.table-index l.fn.tables l.tables
