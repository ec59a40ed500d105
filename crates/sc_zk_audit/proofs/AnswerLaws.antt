-- What is answered: to refusals, to rounds that were played and replayed, and where no witness is found.
use Rattle.std.proofs.Common.{◌≡◌, ◌⊎◌, inl, inr, ℕ, ◌<◌, ◌≤◌, List, [], All, length, Some, None, refl, sym, ◌∙◌, ap, subst}
use Rattle.std.specs.Prelude.{Result, Ok, Err, IsErrAnd}
use Rattle.sc_definitions.specs.declared.events.Event.{Event}
use Rattle.sc_definitions.specs.Ring.{IsRing, plus, times}
use Rattle.sc_definitions.specs.Replays.{given_rounds}
use Rattle.sc_definitions.specs.Channels.{Wire, empty_wire, with_rounds}
use Rattle.sc_transcript.specs.declared.error.SumcheckError.{SumcheckError}
use Rattle.sc_transcript.specs.declared.error.SumcheckError.TheVariants as run
use Rattle.sc_transcript.proofs.GivenRounds.{given_played}
use Rattle.sc_zk_definitions.specs.MaskedRuns.{IsHalf, masked_in}
use Rattle.sc_zk_definitions.specs.MaskedBatches.{MaskedBatch, head_of, eps_of, masking_of, start_of}
use Rattle.sc_zk_rounds.specs.InStep.{MaskedFigures, StepsThrough, StaysInStep}
use Rattle.sc_zk_audit.specs.declared.error.MaskedError.{MaskedError}
use Rattle.sc_zk_audit.specs.declared.error.MaskedError.TheVariants as errors
use Rattle.sc_zk_audit.specs.declared.report.MaskedReport.{MaskedReport}
use Rattle.sc_zk_audit.specs.MaskedCases.{MaskedAsked, masked_batch}
use Rattle.sc_zk_audit.specs.MaskedRefusals.{masked_refusal, run_told}
use Rattle.sc_zk_audit.specs.MaskedReports.{masked_rounds, challenges_of, figures_at, rounds_answer, unless_refused, masked_answer, answer_in}
use Rattle.sc_zk_audit.specs.MaskedAudits.{GivesMasked, rounds_shown, history_after, LeavesMaskedHistory}
use Rattle.sc_zk_audit.proofs.MaskedRounds.{played-rounds, lacking-round, played-residual}

-- an error that is passed on
pub passed_on : {F EF : Type 0} (base : F → ℕ) (number : EF → ℕ) (r : Result (MaskedReport F EF) MaskedError) (e : MaskedError) → IsErrAnd r (λ x. x ≡ e) →
    answer_in base number r ≡ Err e
passed_on base number (Ok x) e is = elim is [ ]
passed_on base number (Err x) e is = ap (λ y. Err y) is

module _ (q : MaskedAsked) where
  abbrev batch : MaskedBatch
  batch = masked_batch q

  -- ---- refusals before the rounds

  pub refused-answer : (e : MaskedError) → (e ≡ errors.NoMemory) ⊎ (masked_refusal q ≡ Some e) → GivesMasked (masked_answer q) (Err e)
  refused-answer e (inl memory) = inl memory
  refused-answer e (inr is) = inr (ap (λ first. unless_refused first (rounds_answer batch (masked_rounds batch))) is)

  -- they leave the history as it was
  pub refused-left : (e : MaskedError) → LeavesMaskedHistory batch (Err e) q.history
  refused-left (errors.JobShape fault) = refl
  refused-left (errors.Rounds rounds bound) = refl
  refused-left errors.EvenCharacteristic = refl
  refused-left (errors.MaskTooShort l) = refl
  refused-left errors.NoRounds = refl
  refused-left (errors.FalseClaim i claimed actual) = refl
  refused-left (errors.NoWitness i) = refl
  refused-left errors.NoMemory = inl (inl refl)

  module _ (none : masked_refusal q ≡ None) (some : length q.masks.masks ≤ q.problem.variables) where
    unrefused : masked_answer q ≡ rounds_answer batch (masked_rounds batch)
    unrefused = ap (λ first. unless_refused first (rounds_answer batch (masked_rounds batch))) none

    -- ---- rounds that were played and replayed

    module _ (f : MaskedFigures) (h' : List Event) (s : StepsThrough batch h' f) where
      shown_wire : f.wire ≡ with_rounds q.channel.bits empty_wire s.played.played.rounds
      shown_wire = s.wire ∙ s.played.played.wire

      -- the rounds that the figures show are those that were played
      shown_rounds : rounds_shown f ≡ s.played.played.rounds
      shown_rounds =
          ap (λ (w : Wire). given_rounds w.messages w.witnesses) shown_wire
          ∙ given_played (masked_in batch.setting (start_of batch) (masking_of batch)) q.channel (start_of batch).history [] q.problem.variables s.played.played.rounds s.played.played.built

      pub stepped-left : (claim : ℕ) → LeavesMaskedHistory batch (Ok (record { claim = claim; figures = f })) h'
      stepped-left claim = s.history ∙ s.played.played.history ∙ ap (history_after batch) (sym shown_rounds)

      module _ (ring : IsRing q.ops) (half : IsHalf q.ops batch.half) where
        same_figures : figures_at batch s.played.played.rounds f.challenges ≡ f
        same_figures =
            let o = q.ops in
            let adds = played-residual batch some ring half s.after f.challenges s.played
            ∙ sym (s.residual ∙ (λ i. plus o (plus o (s.scaled i) (s.carried i)) (s.masks i))) in
            let wire = sym shown_wire in
            let scaled = ap (times o (eps_of batch)) (sym s.played.played.claim) ∙ sym s.scaled in
            let mu = sym s.mu in
            let eps = sym s.eps in
            let carried = sym s.carried in
            let masks = sym s.masks in
            λ i. record {
              mu = mu i;
              wire = wire i;
              challenges = f.challenges;
              eps = eps i;
              residual = adds i;
              scaled = scaled i;
              carried = carried i;
              mask_residual = masks i;
            }

        pub stepped-answer : (claim : ℕ) → claim ≡ (head_of batch).claim → All (λ w. w < q.channel.base_size) f.wire.witnesses →
            masked_answer q ≡ Ok (record { claim = claim; figures = f })
        stepped-answer claim is low =
            let rounds = s.played.played.rounds in
            let are = played-rounds batch some s.after f.challenges s.played refl (subst (All (λ w. w < q.channel.base_size)) (ap (λ (w : Wire). w.witnesses) s.wire) low) in
            let same : figures_at batch rounds (challenges_of batch rounds) ≡ f = ap (figures_at batch rounds) (sym s.played.played.drawn) ∙ same_figures in
            unrefused ∙ ap (rounds_answer batch) are ∙ ap (λ g. Ok (record { claim = (head_of batch).claim; figures = g })) same
            ∙ ap (λ c. Ok (record { claim = c; figures = f })) (sym is)

    -- ---- rounds that could not be played

    pub broken-answer : {X : Type 0} (view : X → MaskedFigures) (e : SumcheckError) (h' : List Event) → StaysInStep view batch (Err e) h' →
        GivesMasked (masked_answer q) (Err (run_told e))
    broken-answer view (run.NoWitness i) h' left = inr (unrefused ∙ ap (rounds_answer batch) (lacking-round batch some i left.0 refl))
    broken-answer view run.NoMemory h' left = inl refl
    broken-answer view (run.RoundCountMismatch n m) h' left = absurd left
    broken-answer view (run.MissingSumcheckData n) h' left = absurd left
    broken-answer view (run.InvalidPowWitness i bits) h' left = absurd left
    broken-answer view (run.MissingPowWitness i bits) h' left = absurd left
    broken-answer view (run.PowWitnessCountMismatch n m) h' left = absurd left
    broken-answer view (run.WireSizeMismatch i n m) h' left = absurd left
    broken-answer view run.EvenCharacteristic h' left = absurd left
    broken-answer view (run.MaskTooShort l) h' left = absurd left
    broken-answer view run.NoRounds h' left = absurd left
    broken-answer view (run.OpeningShapeMismatch t n m i j) h' left = absurd left

    pub broken-left : {X : Type 0} (view : X → MaskedFigures) (e : SumcheckError) (h' : List Event) → StaysInStep view batch (Err e) h' →
        LeavesMaskedHistory batch (Err (run_told e)) h'
    broken-left view (run.NoWitness i) h' left = left.1
    broken-left view run.NoMemory h' left = left
    broken-left view (run.RoundCountMismatch n m) h' left = absurd left
    broken-left view (run.MissingSumcheckData n) h' left = absurd left
    broken-left view (run.InvalidPowWitness i bits) h' left = absurd left
    broken-left view (run.MissingPowWitness i bits) h' left = absurd left
    broken-left view (run.PowWitnessCountMismatch n m) h' left = absurd left
    broken-left view (run.WireSizeMismatch i n m) h' left = absurd left
    broken-left view run.EvenCharacteristic h' left = absurd left
    broken-left view (run.MaskTooShort l) h' left = absurd left
    broken-left view run.NoRounds h' left = absurd left
    broken-left view (run.OpeningShapeMismatch t n m i j) h' left = absurd left
