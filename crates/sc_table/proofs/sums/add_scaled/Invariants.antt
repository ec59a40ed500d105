use Rattle.sc_definitions.specs.Ring.{plus, times}
use Rattle.sc_definitions.specs.Tables.{entries}
use Rattle.sc_table.specs.Blocks.{HasWritten}
use Rattle.sc_table.proofs.sums.add_scaled.Given as goal

abbrev pub invariant-loop-b : goal.invariant-loop-b
invariant-loop-b g l =
    let e = g.E.Field in
    let images = entries (λ x. g.E.Algebra.embedding (g.A.Field.number x)) l.values in
    HasWritten e.number (λ b. plus e.ops (entries e.number l.fn.rows b) (times e.ops (e.number l.scale) (images b))) 0 l.b l.fn.rows l.rows
