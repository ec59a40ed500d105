use Rattle.std.proofs.Common.{◌+◌, ◌-◌, ◌≤◌, ◌≡◌, length, map}
use Rattle.sc_table.specs.Polys.{table_of}
use Rattle.sc_table.proofs.SumLaws.{HaveGained}
use Rattle.sc_degree.specs.Nodes.{node_of}
use Rattle.sc_degree.specs.Lines.{lines_at}
use Rattle.sc_degree.proofs.table_product.add_rows_by_blocks.Given as goal

abbrev pub invariant-loop-from : goal.invariant-loop-from
invariant-loop-from g l =
    let e = g.EF.Field in
    let fs = map (table_of e.number) l.tables in
    record {
      within : l.from ≤ l.half;
      room : length l.products ≡ 256;
      so_far : HaveGained e.number e.ops (λ k b. lines_at e.ops fs b (l.half + b) (node_of k)) l.from l.fn.values l.values;
    }

abbrev pub decreases-loop-from : goal.decreases-loop-from
decreases-loop-from g l = l.half - l.from
