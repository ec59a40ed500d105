use Rattle.std.proofs.Common.{◌/◌, length, arith}
use Rattle.sc_definitions.specs.Tables.{evaluation, suffix, entries}
use Rattle.sc_definitions.proofs.LoopLaws.{message-none, message-all}
use Rattle.sc_table.proofs.HonestLaws.{message-honest}
use Rattle.sc_table.proofs.KernelLaws.{message-block}
use Rattle.sc_table.proofs.strategy.sumcheck_coefficients_suffix.Goals as goal

pub loop-from-init : goal.loop-from-init
loop-from-init g c = record {
  within = omega arith;
  so_far = message-none c.zero-message.ensures.first c.zero-message.ensures.leading;
}

pub loop-from-preserved : goal.loop-from-preserved
loop-from-preserved g c =
    let a = g.A.Field in
    record {
      within = omega arith;
      so_far = message-block evaluation suffix a.ops g.met.A.Field.is_field.ring _ c.loop-from.invariant.so_far
          (c.with_pairs-message.ensures.first (length c.args.evals.now / 2)) (c.with_pairs-message.ensures.leading (length c.args.evals.now / 2));
    }

pub returns : goal.returns
returns g c =
    let a = g.A.Field in
    let half = length c.args.evals.now / 2 in
    let f = entries (λ x. g.A.Algebra.embedding (g.B.Field.number x)) c.args.evals.now in
    let w = entries a.number c.args.weights.now in
    let done = message-all evaluation suffix a.ops half f w c.loop-from.from _ _ (omega (arith, c.loop-from.invariant.within, c.loop-from-test)) c.loop-from.invariant.so_far in
    record {
      first = done.0;
      leading = done.1;
      honest = λ m size. message-honest evaluation suffix tt a.ops g.met.A.Field.is_field.ring f w m (length c.args.evals.now) _ _ size done.0 done.1;
    }
