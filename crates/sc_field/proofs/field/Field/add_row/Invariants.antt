use Rattle.sc_definitions.specs.Ring.{plus, times}
use Rattle.sc_definitions.specs.Tables.{entries}
use Rattle.sc_field.specs.Written.{HasWritten}
use Rattle.sc_field.proofs.field.Field.add_row.Given as goal

abbrev pub invariant-loop-c : goal.invariant-loop-c
invariant-loop-c g l =
    let f = g.Self.Field in
    HasWritten f.number (λ c. plus f.ops (entries f.number l.fn.sums c) (times f.ops (entries f.number l.row c) (f.number l.factor))) 0 l.c l.fn.sums l.sums
