use Rattle.std.proofs.Common.{◌+◌, ◌*◌}
use Rattle.sc_definitions.specs.Tables.{entries}
use Rattle.sc_table.specs.Blocks.{HasWritten}
use Rattle.sc_svo.proofs.together.read_every.Given as goal

abbrev pub invariant-loop-a : goal.invariant-loop-a
invariant-loop-a g l =
    HasWritten g.E.Field.number (λ a. entries (λ x. g.E.Algebra.embedding (g.B.Field.number x)) l.fn.table (l.fn.from + a * l.fn.step)) 0 l.a l.fn.rows l.rows
