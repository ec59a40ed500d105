use Rattle.std.proofs.Common.{◌≡◌, ◌^◌, ℕ, true, length}
use Rattle.sc_definitions.specs.Ring.{plus, times}
use Rattle.sc_definitions.specs.Tables.{entries}
use Rattle.sc_table.specs.Strategy.{order_of}
use Rattle.sc_table.specs.Blocks.{HasWritten}
use Rattle.sc_partials.specs.NextPartials.{half_row}
use Rattle.sc_partials.proofs.next_partials.add_half.Given as goal

abbrev pub invariant-loop-a : goal.invariant-loop-a
invariant-loop-a g l =
    let e = g.EF.Field in
    (m : ℕ) → length l.fn.rows ≡ 2 ^ m → HasWritten e.number
    (λ b. plus e.ops (entries e.number l.fn.rows b) (times e.ops (e.number l.factor) (entries e.number l.table (half_row (order_of l.order) true m b)))) 0 l.a l.fn.rows l.rows
