use Rattle.std.proofs.Common.{◌/◌, length, arith}
use Rattle.sc_definitions.specs.Tables.{projective, prefix, entries}
use Rattle.sc_definitions.proofs.LoopLaws.{message-none, message-all}
use Rattle.sc_table.proofs.HonestLaws.{message-honest}
use Rattle.sc_table.proofs.KernelLaws.{message-block}
use Rattle.sc_table.proofs.strategy.sumcheck_coefficients_prefix_projective.Goals as goal

pub loop-from-init : goal.loop-from-init
loop-from-init g c = record {
  within = omega arith;
  so_far = message-none c.zero-message.ensures.first c.zero-message.ensures.leading;
}

pub loop-from-preserved : goal.loop-from-preserved
loop-from-preserved g c =
    let a = g.A.Field in
    record {
      within = omega arith;
      so_far = message-block projective prefix a.ops g.met.A.Field.is_field.ring _ c.loop-from.invariant.so_far
          (c.with_coefficient_halves-message.ensures.first) (c.with_coefficient_halves-message.ensures.leading);
    }

pub returns : goal.returns
returns g c =
    let a = g.A.Field in
    let half = length c.args.evals.now / 2 in
    let f = entries (λ x. g.A.Algebra.embedding (g.B.Field.number x)) c.args.evals.now in
    let w = entries a.number c.args.weights.now in
    let done = message-all projective prefix a.ops half f w c.loop-from.from _ _ (omega (arith, c.loop-from.invariant.within, c.loop-from-test)) c.loop-from.invariant.so_far in
    record {
      first = done.0;
      leading = done.1;
      honest = λ m size. message-honest projective prefix tt a.ops g.met.A.Field.is_field.ring f w m (length c.args.evals.now) _ _ size done.0 done.1;
    }
