use Rattle.std.proofs.Common.{◌+◌, ◌*◌, length}
use Rattle.sc_definitions.specs.Ring.{plus}
use Rattle.sc_definitions.specs.Tables.{entries}
use Rattle.sc_field.specs.Products.{products}
use Rattle.sc_field.specs.Written.{HasWritten}
use Rattle.sc_table.proofs.split_eq.add_dots.Given as goal

abbrev pub invariant-loop-c : goal.invariant-loop-c
invariant-loop-c g l =
    let e = g.E.Field in
    let images = entries (λ x. g.E.Algebra.embedding (g.A.Field.number x)) l.table in
    HasWritten e.number (λ c. plus e.ops (entries e.number l.fn.sums c)
    (products e.ops (length l.weights) (λ k. images (c * l.row + l.from + k)) (entries e.number l.weights))) 0 l.c l.fn.sums l.sums
