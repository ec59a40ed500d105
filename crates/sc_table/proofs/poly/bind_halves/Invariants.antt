use Rattle.sc_definitions.specs.Tables.{entries, bound}
use Rattle.sc_table.specs.Blocks.{HasWritten}
use Rattle.sc_table.proofs.poly.bind_halves.Given as goal

abbrev pub invariant-loop-b : goal.invariant-loop-b
invariant-loop-b g l =
    let a = g.A.Field in
    HasWritten a.number (bound a.ops l.half (g.A.Algebra.embedding (g.Ch.Field.number l.r)) (entries a.number l.fn.evals)) l.from l.b l.fn.evals l.evals
