use Rattle.std.proofs.Common.{◌≡◌, map, take}
use Rattle.sc_table.specs.Polys.{table_of}
use Rattle.sc_degree.specs.Lines.{lines_at}
use Rattle.sc_degree.proofs.table_product.product_at.Given as goal

abbrev pub invariant-loop-index : goal.invariant-loop-index
invariant-loop-index g l =
    let e = g.EF.Field in
    record { so_far : e.number l.product ≡ lines_at e.ops (map (table_of e.number) (take l.index l.tables)) l.low l.high (e.number l.x) }
