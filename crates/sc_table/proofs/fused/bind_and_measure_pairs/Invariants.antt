use Rattle.std.proofs.Common.{◌-◌, ◌*◌, ◌≤◌}
use Rattle.sc_definitions.specs.Tables.{evaluation, suffix, entries, bound_low}
use Rattle.sc_definitions.proofs.LoopLaws.{IsMessageSoFar}
use Rattle.sc_table.specs.Blocks.{HasWritten}
use Rattle.sc_table.proofs.fused.bind_and_measure_pairs.Given as goal

abbrev pub invariant-loop-from : goal.invariant-loop-from
invariant-loop-from g l =
    let a = g.A.Field in
    let r = g.A.Algebra.embedding (g.Ch.Field.number l.r) in
    let f = bound_low a.ops r (entries a.number l.fn.evals) in
    let w = bound_low a.ops r (entries a.number l.fn.weights) in
    record {
      within : l.from ≤ l.quarter;
      evals : HasWritten a.number f 0 (2 * l.from) l.fn.evals l.evals;
      weights : HasWritten a.number w 0 (2 * l.from) l.fn.weights l.weights;
      so_far : IsMessageSoFar evaluation suffix a.ops l.quarter l.from f w (a.number l.message.c_a) (a.number l.message.c_inf);
    }

abbrev pub decreases-loop-from : goal.decreases-loop-from
decreases-loop-from g l = l.quarter - l.from
