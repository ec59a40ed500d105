use Rattle.std.proofs.Common.{List, Err, refl, subst, ◌++◌, inr, ap, map, length}
use Rattle.sc_definitions.specs.Tables.{Basis}
use Rattle.sc_definitions.specs.Rounds.{next_claim}
use Rattle.sc_definitions.specs.Events.{words}
use Rattle.sc_definitions.specs.Seeds.{quadratic_seed}
use Rattle.sc_definitions.specs.declared.events.Event.{Event}
use Rattle.sc_definitions.specs.Channels.{channel, VerifierState, verifier_state, IsReplayed}
use Rattle.sc_rounds.proofs.TakenLaws.{claim_begun, same_verifier_state}
use Rattle.sc_transcript.proofs.InStep.{message_count, found_count, same_challenges, same_ends, wants_memory, step_as, not_begun}
use Rattle.sc_transcript.specs.Shapes.{shape_of, batch_of}
use Rattle.sc_transcript.specs.Data.{wire_in}
use Rattle.sc_transcript.specs.Replayed.{AreCounted, Replay, replay_of, LeavesReplay, caller_state, verifier_state_at, IsUnmoved}
use Rattle.sc_transcript.specs.Causes.{cause_of}
use Rattle.sc_transcript.specs.Steps.{rounds_on}
use Rattle.sc_rounds.specs.ProverViews.{shown_by, stated_to}
use Rattle.sc_rounds.proofs.laws.batch_in_step.Goals as goal

-- the prover's call asks for what the caller gives
pub compute_sumcheck_polynomials-requires-clause-variables : goal.compute_sumcheck_polynomials-requires-clause-variables
compute_sumcheck_polynomials-requires-clause-variables g c = c.requires.variables

pub compute_sumcheck_polynomials-requires-clause-difficulty : goal.compute_sumcheck_polynomials-requires-clause-difficulty
compute_sumcheck_polynomials-requires-clause-difficulty g c = c.requires.difficulty

pub compute_sumcheck_polynomials-requires-clause-constraint : goal.compute_sumcheck_polynomials-requires-clause-constraint
compute_sumcheck_polynomials-requires-clause-constraint g c = c.requires.constraint

-- both challengers have the same rules
pub verify_rounds-requires : goal.verify_rounds-requires
verify_rounds-requires g c = rw c.requires.rules c.requires.difficulty

-- the prover's refusal: the verifier has not begun
pub returns-in_err-drawn : goal.returns-in_err-drawn
returns-in_err-drawn g c = record {
  step = step_as (map g.EF.Field.number) g.EF.Field.number _ _ _ _ c.from_residual.result _ c.from_residual.ensures.1 (not_begun _ _ _ _ c.in_err-drawn.ensures.batch);
  prover_rules = c.in_err-drawn.ensures.rules;
  verifier_rules = refl;
  form = c.in_err-drawn.ensures.form;
}

-- the verifier's refusal: the prover has played
pub returns-in_err-replayed : goal.returns-in_err-replayed
returns-in_err-replayed g c =
    let N = g.EF.Field.number in
    let C = channel (g.C.Challenger.party c.args.verifier_challenger.now).rules g.EF.ExtensionField.extension g.F.Field.ops.size c.args.pow_bits in
    let same = ap (λ R. channel R g.EF.ExtensionField.extension g.F.Field.ops.size c.args.pow_bits) c.requires.rules in
    let seed = λ (h : List Event). h ++ words (quadratic_seed g.EF.ExtensionField.DEGREE (shown_by c.args.prover.now).basis c.args.pow_bits c.args.folding_factor) in
    let claim = claim_begun g.EF.Field.ops (stated_to c.args.prover.now c.args.constraint) _ _ _ c.claimed_sum.ensures.number c.with_claim-claim.ensures in
    let begun = same_verifier_state (ap seed c.requires.history) claim in
    let whole = c.in_ok-drawn.ensures.batch.whole in
    let played = c.in_ok-drawn.ensures.batch.played in
    let shape = batch_of (shape_of c.args.folding_factor c.args.pow_bits c.basis-basis.result) in
    let counted : AreCounted shape (length (wire_in g.F.Field.number N c.compute_sumcheck_polynomials.new.sumcheck_data).messages) (length (wire_in g.F.Field.number N c.compute_sumcheck_polynomials.new.sumcheck_data).witnesses) = record {
      as_rounds = message_count _ _ _ _ C _ c.requires.empty same begun played c.args.folding_factor whole;
      as_witnesses = found_count _ _ _ _ C _ c.requires.empty same begun played c.args.folding_factor whole;
    } in
    let walk : Basis → Replay = λ b.
    replay_of (next_claim b g.EF.Field.ops) C shape (verifier_state ((g.C.Challenger.party c.args.verifier_challenger.now).history
    ++ words (quadratic_seed g.EF.ExtensionField.DEGREE b c.args.pow_bits c.args.folding_factor)) (N c.with_claim-claim.result))
    (wire_in g.F.Field.number N c.compute_sumcheck_polynomials.new.sumcheck_data) in
    let before = caller_state (g.C.Challenger.party c.args.verifier_challenger.now) c.with_claim-claim.result in
    let after = caller_state (g.C.Challenger.party c.verify_rounds.new.challenger) c.verify_rounds.new.claimed_sum in
    let left = subst (λ p. LeavesReplay (IsUnmoved before after) p (Err (cause_of c.in_err-replayed.field-0.0)) (verifier_state_at N after)) (ap walk c.basis-basis.ensures) c.in_err-replayed.ensures.left in
    let told = wants_memory _ _ _ _ C _ c.requires.empty same begun played _ _ shape c.in_err-replayed.field-0.0 _ counted left in
    record {
      step = step_as (map N) N _ _ _ _ c.from_residual-in_err-replayed.result _ (rw told.0 at c.from_residual-in_err-replayed.ensures.1)
          (inr (record { rs = _; played = c.in_ok-drawn.ensures.batch; left = told.1 }));
      prover_rules = c.in_ok-drawn.ensures.rules;
      verifier_rules = c.in_err-replayed.ensures.rules;
      form = c.in_ok-drawn.ensures.form;
    }

-- both are in step
pub returns : goal.returns
returns g c =
    let N = g.EF.Field.number in
    let C = channel (g.C.Challenger.party c.args.verifier_challenger.now).rules g.EF.ExtensionField.extension g.F.Field.ops.size c.args.pow_bits in
    let same = ap (λ R. channel R g.EF.ExtensionField.extension g.F.Field.ops.size c.args.pow_bits) c.requires.rules in
    let seed = λ (h : List Event). h ++ words (quadratic_seed g.EF.ExtensionField.DEGREE (shown_by c.args.prover.now).basis c.args.pow_bits c.args.folding_factor) in
    let claim = claim_begun g.EF.Field.ops (stated_to c.args.prover.now c.args.constraint) _ _ _ c.claimed_sum.ensures.number c.with_claim-claim.ensures in
    let begun = same_verifier_state (ap seed c.requires.history) claim in
    let played = c.in_ok-drawn.ensures.batch.played in
    let came = wire_in g.F.Field.number N c.compute_sumcheck_polynomials.new.sumcheck_data in
    let after = caller_state (g.C.Challenger.party c.verify_rounds.new.challenger) c.verify_rounds.new.claimed_sum in
    let from : Basis → VerifierState = λ b.
    verifier_state ((g.C.Challenger.party c.args.verifier_challenger.now).history
    ++ words (quadratic_seed g.EF.ExtensionField.DEGREE b c.args.pow_bits c.args.folding_factor)) (N c.with_claim-claim.result) in
    let replayed = subst (λ b. IsReplayed (next_claim b g.EF.Field.ops) C (from b) (verifier_state_at N after) (rounds_on came) (map N c.in_ok-replayed.replayed))
    c.basis-basis.ensures c.in_ok-replayed.ensures.left.1.replays in
    record {
      step = record {
        played = c.in_ok-drawn.ensures.batch;
        challenges = same_challenges _ _ _ _ C _ c.requires.empty same begun played _ _ replayed;
        ends = same_ends _ _ _ _ C _ c.requires.empty same begun played _ _ replayed;
      };
      prover_rules = c.in_ok-drawn.ensures.rules;
      verifier_rules = c.in_ok-replayed.ensures.rules;
      form = c.in_ok-drawn.ensures.form;
    }
