use Rattle.sc_definitions.specs.Ring.{plus, times}
use Rattle.sc_definitions.specs.Tables.{entries}
use Rattle.sc_table.specs.Blocks.{HasWritten}
use Rattle.sc_partials.proofs.sums.add_values.Given as goal

abbrev pub invariant-loop-k : goal.invariant-loop-k
invariant-loop-k g l =
    let e = g.EF.Field in
    HasWritten e.number (λ b. plus e.ops (entries e.number l.fn.sums b) (times e.ops (entries e.number l.xs b) (entries e.number l.ys b))) 0 l.k l.fn.sums l.sums
