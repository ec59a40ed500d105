use Rattle.sc_definitions.specs.Tables.{entries, bound_coefficients}
use Rattle.sc_table.specs.Blocks.{HasWritten}
use Rattle.sc_table.proofs.projective.bind_coefficients.Given as goal

abbrev pub invariant-loop-b : goal.invariant-loop-b
invariant-loop-b g l =
    let a = g.A.Field in
    HasWritten a.number (bound_coefficients a.ops l.half (g.A.Algebra.embedding (g.Ch.Field.number l.r)) (entries a.number l.fn.coefficients)) 0 l.b l.fn.coefficients l.coefficients
