use Rattle.std.proofs.Common.{◌+◌, length, map}
use Rattle.sc_definitions.specs.Ring.{plus}
use Rattle.sc_definitions.specs.Tables.{sum_below, entries}
use Rattle.sc_table.specs.Polys.{table_of}
use Rattle.sc_table.specs.Blocks.{HasWritten}
use Rattle.sc_degree.specs.Nodes.{node_of}
use Rattle.sc_degree.specs.Lines.{lines_at}
use Rattle.sc_degree.proofs.table_product.add_block.Given as goal

abbrev pub invariant-loop-index : goal.invariant-loop-index
invariant-loop-index g l =
    let e = g.EF.Field in
    let fs = map (table_of e.number) l.tables in
    HasWritten e.number (λ k. plus e.ops (entries e.number l.fn.values k)
    (sum_below e.ops (length l.fn.products) (λ b. lines_at e.ops fs (l.low + b) (l.high + b) (node_of k)))) 0 l.index l.fn.values l.values
