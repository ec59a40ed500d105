use Rattle.std.proofs.Common.{◌≡◌, ◌+◌, ◌*◌, ◌≤◌, ◌∙◌, ap, arith}
use Rattle.sc_definitions.specs.Ring.{plus}
use Rattle.sc_definitions.specs.Tables.{evaluation, prefix, entries, bound}
use Rattle.sc_definitions.proofs.LoopLaws.{message-none, message-all}
use Rattle.sc_table.proofs.FoldLaws.{AreQuartersFolded, quarters-none, quarters-more, quarters-all}
use Rattle.sc_table.proofs.KernelLaws.{message-block, block-same_halves}
use Rattle.sc_table.proofs.fused.bind_and_measure_halves.Goals as goal

pub loop-from-init : goal.loop-from-init
loop-from-init g c =
    let a = g.A.Field in
    let r = g.A.Algebra.embedding (g.Ch.Field.number c.args.r) in
    let quarter = c.args.quarter in
    let whole : 2 * quarter ≡ quarter + quarter = omega arith in
    record {
      within = omega arith;
      evals = quarters-none a.number a.ops r quarter (2 * quarter) whole c.args.evals.now;
      weights = quarters-none a.number a.ops r quarter (2 * quarter) whole c.args.weights.now;
      so_far = message-none c.zero-message.ensures.first c.zero-message.ensures.leading;
    }

pub loop-from-preserved : goal.loop-from-preserved
loop-from-preserved g c =
    let a = g.A.Field in
    let r = g.A.Algebra.embedding (g.Ch.Field.number c.args.r) in
    let quarter = c.args.quarter in
    let half = 2 * quarter in
    let whole : half ≡ quarter + quarter = omega arith in
    let from = c.loop-from.from in
    let rows = c.min-rows.result in
    let within : from + rows ≤ quarter = omega arith in
    let f = bound a.ops half r (entries a.number c.args.evals.now) in
    let w = bound a.ops half r (entries a.number c.args.weights.now) in
    let es = c.bind_halves-in-loop-from.new.evals in
    let ws = c.bind_halves-in-loop-from-3.new.evals in
    let evals : AreQuartersFolded a.number f quarter (from + rows) c.args.evals.now es =
    quarters-more a.number a.ops r quarter half whole from rows c.args.evals.now c.loop-from.evals c.bind_halves.new.evals es within
    c.loop-from.invariant.evals c.bind_halves.ensures c.bind_halves-in-loop-from.ensures in
    let weights : AreQuartersFolded a.number w quarter (from + rows) c.args.weights.now ws =
    quarters-more a.number a.ops r quarter half whole from rows c.args.weights.now c.loop-from.weights c.bind_halves-in-loop-from-2.new.evals ws within
    c.loop-from.invariant.weights c.bind_halves-in-loop-from-2.ensures c.bind_halves-in-loop-from-3.ensures in
    let same = block-same_halves a.ops quarter from rows (entries a.number es) f (entries a.number ws) w
    (λ k low. evals.low (from + k) (omega arith)) (λ k low. evals.high (from + k) (omega arith))
    (λ k low. weights.low (from + k) (omega arith)) (λ k low. weights.high (from + k) (omega arith)) in
    record {
      within = within;
      evals = evals;
      weights = weights;
      so_far = message-block evaluation prefix a.ops g.met.A.Field.is_field.ring _ c.loop-from.invariant.so_far
          (c.with_halves-message.ensures.first ∙ ap (plus a.ops (a.number c.loop-from.message.c_a)) same.0)
          (c.with_halves-message.ensures.leading ∙ ap (plus a.ops (a.number c.loop-from.message.c_inf)) same.1);
    }

pub returns : goal.returns
returns g c =
    let a = g.A.Field in
    let r = g.A.Algebra.embedding (g.Ch.Field.number c.args.r) in
    let half = 2 * c.args.quarter in
    let f = bound a.ops half r (entries a.number c.args.evals.now) in
    let w = bound a.ops half r (entries a.number c.args.weights.now) in
    let all : c.loop-from.from ≡ c.args.quarter = omega (arith, c.loop-from.invariant.within, c.loop-from-test) in
    let done = message-all evaluation prefix a.ops c.args.quarter f w c.loop-from.from _ _ all c.loop-from.invariant.so_far in
    record {
      evals = quarters-all a.number f c.args.quarter c.loop-from.from c.args.evals.now c.loop-from.evals all c.loop-from.invariant.evals;
      weights = quarters-all a.number w c.args.quarter c.loop-from.from c.args.weights.now c.loop-from.weights all c.loop-from.invariant.weights;
      first = done.0;
      leading = done.1;
    }
