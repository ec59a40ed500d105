use Rattle.sc_table.specs.Polys.{table_of}
use Rattle.sc_degree.proofs.LineLaws.{AreProducts}
use Rattle.sc_degree.proofs.table_product.block_sum.Given as goal

abbrev pub invariant-loop-index : goal.invariant-loop-index
invariant-loop-index g l =
    let e = g.EF.Field in
    AreProducts e.number e.ops (table_of e.number) l.tables l.low l.high (e.number l.x) l.index l.products
