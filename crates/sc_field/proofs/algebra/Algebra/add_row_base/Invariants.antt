use Rattle.sc_definitions.specs.Ring.{plus, times}
use Rattle.sc_definitions.specs.Tables.{entries}
use Rattle.sc_field.specs.Written.{HasWritten}
use Rattle.sc_field.proofs.algebra.Algebra.add_row_base.Given as goal

abbrev pub invariant-loop-c : goal.invariant-loop-c
invariant-loop-c g l =
    let f = g.Self.Field in
    let images = entries (λ x. g.Self.Algebra.embedding (g.B.Field.number x)) l.row in
    HasWritten f.number (λ c. plus f.ops (entries f.number l.fn.sums c) (times f.ops (images c) (f.number l.factor))) 0 l.c l.fn.sums l.sums
