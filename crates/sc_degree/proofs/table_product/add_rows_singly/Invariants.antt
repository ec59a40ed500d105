use Rattle.std.proofs.Common.{◌+◌, map}
use Rattle.sc_definitions.specs.Ring.{plus}
use Rattle.sc_definitions.specs.Tables.{sum_below, entries}
use Rattle.sc_table.specs.Polys.{table_of}
use Rattle.sc_table.specs.Blocks.{HasWritten}
use Rattle.sc_degree.specs.Nodes.{node_of}
use Rattle.sc_degree.specs.Lines.{lines_at}
use Rattle.sc_degree.proofs.table_product.add_rows_singly.Given as goal

abbrev pub invariant-loop-index : goal.invariant-loop-index
invariant-loop-index g l =
    let e = g.EF.Field in
    let fs = map (table_of e.number) l.tables in
    HasWritten e.number (λ k. plus e.ops (entries e.number l.fn.values k)
    (sum_below e.ops l.half (λ b. lines_at e.ops fs b (l.half + b) (node_of k)))) 0 l.index l.fn.values l.values
