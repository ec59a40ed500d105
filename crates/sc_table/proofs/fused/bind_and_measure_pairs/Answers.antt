use Rattle.std.proofs.Common.{◌≡◌, ◌+◌, ◌*◌, ◌≤◌, ◌∙◌, ap, subst, arith}
use Rattle.sc_definitions.specs.Ring.{plus}
use Rattle.sc_definitions.specs.Tables.{evaluation, suffix, entries, bound_low}
use Rattle.sc_definitions.proofs.LoopLaws.{message-none, message-all}
use Rattle.sc_table.specs.Blocks.{HasWritten}
use Rattle.sc_table.proofs.FoldLaws.{written-none, pairs-more}
use Rattle.sc_table.proofs.KernelLaws.{message-block, block-same_pairs}
use Rattle.sc_table.proofs.fused.bind_and_measure_pairs.Goals as goal

pub loop-from-init : goal.loop-from-init
loop-from-init g c = record {
  within = omega arith;
  evals = written-none g.A.Field.number _ 0 c.args.evals.now;
  weights = written-none g.A.Field.number _ 0 c.args.weights.now;
  so_far = message-none c.zero-message.ensures.first c.zero-message.ensures.leading;
}

pub loop-from-preserved : goal.loop-from-preserved
loop-from-preserved g c =
    let a = g.A.Field in
    let r = g.A.Algebra.embedding (g.Ch.Field.number c.args.r) in
    let from = c.loop-from.from in
    let pairs = c.min-pairs.result in
    let within : from + pairs ≤ c.args.quarter = omega arith in
    let twice : 2 * from + 2 * pairs ≡ 2 * (from + pairs) = omega arith in
    let f = bound_low a.ops r (entries a.number c.args.evals.now) in
    let w = bound_low a.ops r (entries a.number c.args.weights.now) in
    let es = c.bind_pairs.new.evals in
    let ws = c.bind_pairs-in-loop-from.new.evals in
    let evals : HasWritten a.number f 0 (2 * (from + pairs)) c.args.evals.now es =
    subst (λ n. HasWritten a.number f 0 n c.args.evals.now es) twice
    (pairs-more a.number a.ops r (2 * from) (2 * pairs) c.args.evals.now c.loop-from.evals es c.loop-from.invariant.evals c.bind_pairs.ensures) in
    let weights : HasWritten a.number w 0 (2 * (from + pairs)) c.args.weights.now ws =
    subst (λ n. HasWritten a.number w 0 n c.args.weights.now ws) twice
    (pairs-more a.number a.ops r (2 * from) (2 * pairs) c.args.weights.now c.loop-from.weights ws c.loop-from.invariant.weights c.bind_pairs-in-loop-from.ensures) in
    let same = block-same_pairs a.ops c.args.quarter from pairs (entries a.number es) f (entries a.number ws) w
    (λ k low. evals.written (2 * (from + k)) (omega arith) (omega arith)) (λ k low. evals.written (2 * (from + k) + 1) (omega arith) (omega arith))
    (λ k low. weights.written (2 * (from + k)) (omega arith) (omega arith)) (λ k low. weights.written (2 * (from + k) + 1) (omega arith) (omega arith)) in
    record {
      within = within;
      evals = evals;
      weights = weights;
      so_far = message-block evaluation suffix a.ops g.met.A.Field.is_field.ring _ c.loop-from.invariant.so_far
          (c.with_pairs-message.ensures.first c.args.quarter ∙ ap (plus a.ops (a.number c.loop-from.message.c_a)) same.0)
          (c.with_pairs-message.ensures.leading c.args.quarter ∙ ap (plus a.ops (a.number c.loop-from.message.c_inf)) same.1);
    }

pub returns : goal.returns
returns g c =
    let a = g.A.Field in
    let r = g.A.Algebra.embedding (g.Ch.Field.number c.args.r) in
    let f = bound_low a.ops r (entries a.number c.args.evals.now) in
    let w = bound_low a.ops r (entries a.number c.args.weights.now) in
    let all : c.loop-from.from ≡ c.args.quarter = omega (arith, c.loop-from.invariant.within, c.loop-from-test) in
    let done = message-all evaluation suffix a.ops c.args.quarter f w c.loop-from.from _ _ all c.loop-from.invariant.so_far in
    record {
      evals = λ b low. c.loop-from.invariant.evals.written b (omega arith) (omega (arith, all));
      weights = λ b low. c.loop-from.invariant.weights.written b (omega arith) (omega (arith, all));
      first = done.0;
      leading = done.1;
    }
