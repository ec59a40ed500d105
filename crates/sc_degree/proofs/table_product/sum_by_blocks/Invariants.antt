use Rattle.std.proofs.Common.{◌≡◌, ◌-◌, ◌≤◌, length, map}
use Rattle.sc_definitions.specs.Tables.{sum_below}
use Rattle.sc_table.specs.Polys.{table_of}
use Rattle.sc_degree.specs.Lines.{lines_at}
use Rattle.sc_degree.proofs.table_product.sum_by_blocks.Given as goal

abbrev pub invariant-loop-from : goal.invariant-loop-from
invariant-loop-from g l =
    let e = g.EF.Field in
    let fs = map (table_of e.number) l.tables in
    record {
      within : l.from ≤ l.rows;
      room : length l.products ≡ 256;
      so_far : e.number l.sum ≡ sum_below e.ops l.from (λ b. lines_at e.ops fs b b 0);
    }

abbrev pub decreases-loop-from : goal.decreases-loop-from
decreases-loop-from g l = l.rows - l.from
