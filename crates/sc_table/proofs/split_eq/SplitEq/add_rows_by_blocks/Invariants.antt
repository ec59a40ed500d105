use Rattle.std.proofs.Common.{◌+◌, ◌-◌, ◌*◌, ◌≤◌, length}
use Rattle.sc_definitions.specs.Ring.{times}
use Rattle.sc_definitions.specs.Tables.{entries}
use Rattle.sc_table.specs.SplitEqs.{split_weight}
use Rattle.sc_table.proofs.SumLaws.{HaveGained}
use Rattle.sc_table.proofs.split_eq.SplitEq.add_rows_by_blocks.Given as goal

abbrev pub invariant-loop-from : goal.invariant-loop-from
invariant-loop-from g l =
    let f = g.EF.Field in
    let images = entries (λ x. g.EF.Algebra.embedding (g.A.Field.number x)) l.table in
    record {
      within : l.from ≤ l.rows;
      rows : HaveGained f.number f.ops (λ c a. times f.ops (images (a * length l.fn.sums + c))
          (split_weight f.number f.ops l.self a)) l.from l.fn.sums l.sums;
    }

abbrev pub decreases-loop-from : goal.decreases-loop-from
decreases-loop-from g l = l.rows - l.from
