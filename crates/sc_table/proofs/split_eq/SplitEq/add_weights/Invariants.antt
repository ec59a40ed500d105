use Rattle.std.proofs.Common.{◌*◌, min, length}
use Rattle.sc_definitions.specs.Ring.{plus, times}
use Rattle.sc_definitions.specs.Tables.{entries}
use Rattle.sc_field.specs.Written.{HasWritten}
use Rattle.sc_table.specs.SplitEqs.{split_weight}
use Rattle.sc_table.proofs.split_eq.SplitEq.add_weights.Given as goal

abbrev pub invariant-loop-a : goal.invariant-loop-a
invariant-loop-a g l =
    let f = g.EF.Field in
    record {
      rows : HasWritten f.number (λ b. plus f.ops (entries f.number l.fn.rows b)
          (times f.ops (f.number l.factor) (split_weight f.number f.ops l.self b))) 0 (min (l.a * l.block) (length l.fn.rows)) l.fn.rows l.rows;
    }
