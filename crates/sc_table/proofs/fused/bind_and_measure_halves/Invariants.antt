use Rattle.std.proofs.Common.{◌-◌, ◌≤◌}
use Rattle.sc_definitions.specs.Tables.{evaluation, prefix, entries, bound}
use Rattle.sc_definitions.proofs.LoopLaws.{IsMessageSoFar}
use Rattle.sc_table.proofs.FoldLaws.{AreQuartersFolded}
use Rattle.sc_table.proofs.fused.bind_and_measure_halves.Given as goal

abbrev pub invariant-loop-from : goal.invariant-loop-from
invariant-loop-from g l =
    let a = g.A.Field in
    let r = g.A.Algebra.embedding (g.Ch.Field.number l.r) in
    let f = bound a.ops l.half r (entries a.number l.fn.evals) in
    let w = bound a.ops l.half r (entries a.number l.fn.weights) in
    record {
      within : l.from ≤ l.quarter;
      evals : AreQuartersFolded a.number f l.quarter l.from l.fn.evals l.evals;
      weights : AreQuartersFolded a.number w l.quarter l.from l.fn.weights l.weights;
      so_far : IsMessageSoFar evaluation prefix a.ops l.quarter l.from f w (a.number l.message.c_a) (a.number l.message.c_inf);
    }

abbrev pub decreases-loop-from : goal.decreases-loop-from
decreases-loop-from g l = l.quarter - l.from
