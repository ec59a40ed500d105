use Rattle.std.proofs.Common.{◌+◌, ◌-◌, ◌*◌, ◌≤◌, ◌^◌}
use Rattle.sc_definitions.specs.Ring.{times}
use Rattle.sc_definitions.specs.Tables.{entries}
use Rattle.sc_table.specs.SplitEqs.{split_variables, split_weight}
use Rattle.sc_table.proofs.SumLaws.{HaveGained}
use Rattle.sc_table.proofs.split_eq.SplitEq.add_pieces.Given as goal

abbrev pub invariant-loop-from : goal.invariant-loop-from
invariant-loop-from g l =
    let f = g.EF.Field in
    let images = entries (λ x. g.EF.Algebra.embedding (g.A.Field.number x)) l.table in
    record {
      within : l.from ≤ l.rows - l.up;
      rows : HaveGained f.number f.ops (λ c k. times f.ops (images (c * 2 ^ split_variables l.self + l.up + k))
          (split_weight f.number f.ops l.self k)) l.from l.fn.sums l.sums;
    }

abbrev pub decreases-loop-from : goal.decreases-loop-from
decreases-loop-from g l = l.rows - l.up - l.from
