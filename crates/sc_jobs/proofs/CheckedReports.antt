-- The report on rounds of a proof that were replayed.
use Rattle.std.proofs.Common.{◌≡◌, ℕ, zero, suc, List, [], ◌∷◌, length, map, Some, refl, ap, sym, ◌∙◌, subst, arith, inl, inr, Option, Result, Ok, Err}
use Rattle.std.proofs.lemmas.Bool.Decides.{eqb_tells}
use Rattle.std.proofs.Math.Seq.{take-length}
use Rattle.sc_definitions.specs.Rounds.{next_claim}
use Rattle.sc_definitions.specs.Transcript.{Round, messages_of}
use Rattle.sc_definitions.specs.Replays.{given_rounds}
use Rattle.sc_definitions.specs.Channels.{VerifierState, witnesses_of, IsReplayed, IsReplayedInPart, FailsAt}
use Rattle.sc_definitions.specs.Problem.{residual_of}
use Rattle.sc_definitions.proofs.BuiltLaws.{length-challenges}
use Rattle.sc_definitions.proofs.ReplayLaws.{length-given_rounds, messages-given_rounds}
use Rattle.sc_transcript.specs.Data.{witness_count}
use Rattle.sc_transcript.specs.Causes.{cause_of}
use Rattle.sc_transcript.specs.Replayed.{Replay, replay_of, LeavesReplay}
use Rattle.sc_transcript.specs.declared.error.SumcheckError.{SumcheckError}
use Rattle.sc_transcript.specs.declared.error.SumcheckError.TheVariants as replay
use Rattle.sc_jobs.specs.declared.report.Report.{Report}
use Rattle.sc_audit_errors.specs.declared.error.AuditError.{AuditError}
use Rattle.sc_audit_errors.specs.declared.error.AuditError.TheVariants.{RoundCountMismatch, PowWitnessCountMismatch, NoMemory}
use Rattle.sc_jobs.specs.Cases.{Given, check, Asked, with_task, start_of}
use Rattle.sc_jobs.specs.Refusals.{count_refusal}
use Rattle.sc_jobs.specs.Figures.{figures_of}
use Rattle.sc_jobs.specs.Audits.{IsPlayed, IsCaused, Answers, IsRefusedBy, refusal_by}
use Rattle.sc_jobs.specs.Checked.{LeavesReport}
use Rattle.sc_jobs.proofs.CauseLaws.{unrefused, refused_as}
use Rattle.sc_jobs.proofs.CountLaws.{count-rounds, count-witnesses, count-none}

-- the witnesses of the rounds are those that were handed in
all_witnesses : (ms : List (List ℕ)) (ws : List ℕ) → length ws ≡ length ms → map (λ r. r.witness) (given_rounds ms ws) ≡ ws
all_witnesses [] [] e = refl
all_witnesses [] (w ∷ ws) e = absurd (omega (arith, e))
all_witnesses (m ∷ ms) [] e = absurd (omega (arith, e))
all_witnesses (m ∷ ms) (w ∷ ws) e = ap (λ t. w ∷ t) (all_witnesses ms ws (omega (arith, e)))

no_witnesses : (ws : List ℕ) → length ws ≡ 0 → ws ≡ []
no_witnesses [] e = refl
no_witnesses (w ∷ ws) e = absurd (omega (arith, e))

witnesses-given : (bits n : ℕ) (ms : List (List ℕ)) (ws : List ℕ) → length ms ≡ n → length ws ≡ witness_count bits n → witnesses_of bits (given_rounds ms ws) ≡ ws
witnesses-given zero n ms ws em ew = sym (no_witnesses ws ew)
witnesses-given (suc bits) n ms ws em ew =
    elim (eqb_tells (suc bits) 0) [
      | inl t ↦ absurd (omega (arith, t.1))
      | inr t ↦ let count : length ws ≡ n = rw t.0 at ew in all_witnesses ms ws (count ∙ sym em)
    ]

-- A proof was replayed whole from where its rounds begin, and has as many rounds and witnesses as are due.
pub record IsChecked (q : Asked) (given : Given) (end : VerifierState) (out : List ℕ) : Type 0 where
  pub replays : IsReplayed (next_claim q.case.problem.basis q.ops) q.channel (start_of q) end (given_rounds given.messages given.witnesses) out
  pub count : length given.messages ≡ q.case.problem.variables
  pub found : length given.witnesses ≡ witness_count q.channel.bits q.case.problem.variables

module _ (q : Asked) (given : Given) where
  abbrev checked : Asked
  checked = with_task q (check (Some given))

  abbrev rounds_of : List Round
  rounds_of = given_rounds given.messages given.witnesses

  abbrev next : ℕ → List ℕ → ℕ → ℕ
  next = next_claim q.case.problem.basis q.ops

  -- a replay of it from a verifier state on, where so many rounds are expected
  abbrev replay_from : VerifierState → ℕ → Replay
  replay_from start expected = replay_of next q.channel (record { num_rounds = expected; width = 2; pow_bits = q.channel.bits }) start
      (record { messages = given.messages; witnesses = given.witnesses })

  -- ---- a proof that was replayed whole

  -- by what its replay leaves, from a verifier state on, where so many rounds are expected
  pub checked_whole : (end : VerifierState) (out : List ℕ) (start : VerifierState) (expected : ℕ) → expected ≡ q.case.problem.variables → start ≡ start_of q →
      LeavesReplay ⊥ (replay_from start expected) (Ok out) end → IsChecked q given end out
  checked_whole end out start expected size begun left = record {
    replays = subst (λ f. IsReplayed next q.channel f end rounds_of out) begun left.1.replays;
    count = left.0.as_rounds ∙ size;
    found = left.0.as_witnesses ∙ ap (witness_count q.channel.bits) size;
  }

  module _ (end : VerifierState) (out : List ℕ) (is : IsChecked q given end out) where
    pub residual_checked : end.claim ≡ residual_of q.ops q.case.problem given.messages out
    unfolding residual_of
    residual_checked = rw (← is.replays.drawn, messages-given_rounds) at is.replays.claim

    pub challenges_checked : length out ≡ q.case.problem.variables
    challenges_checked = ap length is.replays.drawn ∙ length-challenges _ _ _ _ rounds_of ∙ length-given_rounds _ _ ∙ is.count

    played_checked : IsPlayed checked (figures_of q.ops q.case.problem given.messages given.witnesses out) end.history
    played_checked =
        let o = q.ops in
        let p = q.case.problem in
        let ms = given.messages in
        let ws = given.witnesses in
        record {
          rounds = rounds_of;
          are = refl;
          count = length-given_rounds ms ws ∙ is.count;
          passes = is.replays.passes;
          history = is.replays.history;
          is = ap (λ t. figures_of o p t ws out) (sym (messages-given_rounds ms ws))
              ∙ ap (λ t. figures_of o p (messages_of rounds_of) t out) (sym (witnesses-given q.channel.bits p.variables ms ws is.count is.found))
              ∙ ap (figures_of o p (messages_of rounds_of) (witnesses_of q.channel.bits rounds_of)) is.replays.drawn;
        }

    -- what the report on it is
    pub report_checked : {F EF : Type 0} (base : F → ℕ) (number : EF → ℕ) (first : Option AuditError) (r : Result (Report F EF) AuditError) →
        LeavesReport base number (figures_of q.ops q.case.problem given.messages given.witnesses out) r → Answers base number first checked r end.history
    report_checked base number first (Ok r) p = record {
      played = subst (λ figures. IsPlayed checked figures end.history) (sym p.figures_are) played_checked;
      grids = p.grids;
    }
    report_checked base number first (Err NoMemory) p =
        let whole = take-length rounds_of in
        inr (record {
          rounds = rounds_of;
          are = refl;
          count = length-given_rounds given.messages given.witnesses ∙ is.count;
          played = length rounds_of;
          passes = rw whole is.replays.passes;
          history = rw whole is.replays.history;
        })
    report_checked base number first (Err e) p = absurd p

  -- ---- a proof that was refused

  pub proof_refused : (history claim : Type 0) (start end : VerifierState) (expected : ℕ) (e : SumcheckError) →
      expected ≡ q.case.problem.variables → start ≡ start_of q → (history → end.history ≡ q.history) →
      LeavesReplay (history × claim) (replay_from start expected) (Err (cause_of e)) end →
      IsCaused (count_refusal q.case.problem.variables q.channel.bits given) checked end.history (refusal_by e)
  proof_refused history claim start end expected replay.NoMemory size begun kept left = elim left.1 [
    | inl none ↦ inl (kept none.0)
    | inr part ↦
        let some : IsReplayedInPart next q.channel (start_of q) end rounds_of =
        subst (λ f. IsReplayedInPart next q.channel f end rounds_of) begun (record { count = part.count; rs = part.rs; replays = part.walked.replays }) in
        inr (record {
          rounds = rounds_of;
          are = refl;
          count = length-given_rounds given.messages given.witnesses ∙ left.0.as_rounds ∙ size;
          played = some.count;
          passes = some.replays.passes;
          history = some.replays.history;
        })
  ]
  proof_refused history claim start end expected (replay.InvalidPowWitness i bits) size begun kept left =
      (left.1.0, record { claim = end.claim; at = subst (λ f. FailsAt next q.channel f end rounds_of i) begun left.1.1.at })
  proof_refused history claim start end expected (replay.RoundCountMismatch n m) size begun kept left =
      let error : RoundCountMismatch q.case.problem.variables (length given.messages) ≡ RoundCountMismatch n m = rw (left.0.0, left.0.1, size) refl in
      (count-rounds q.case.problem.variables q.channel.bits given (λ equal. left.0.2 (left.0.1 ∙ equal ∙ sym size ∙ sym left.0.0)) ∙ ap Some error, kept left.1.0)
  proof_refused history claim start end expected (replay.PowWitnessCountMismatch n m) size begun kept left =
      let error : PowWitnessCountMismatch (witness_count q.channel.bits q.case.problem.variables) (length given.witnesses) ≡ PowWitnessCountMismatch n m = rw (left.0.0, left.0.1, size) refl in (
        count-witnesses q.case.problem.variables q.channel.bits given (left.0.3 ∙ size)
            (λ equal. left.0.2 (left.0.1 ∙ equal ∙ ap (witness_count q.channel.bits) (sym size) ∙ sym left.0.0)) ∙ ap Some error,
        kept left.1.0,
      )
  proof_refused history claim start end expected e size begun kept left = absurd left.1

  -- the counts are refused
  pub counts_refused : (T untouched : Type 0) (start end : VerifierState) (expected : ℕ) (e : SumcheckError) → expected ≡ q.case.problem.variables →
      LeavesReplay untouched (replay_from start expected) (Err (cause_of e)) end →
      IsRefusedBy {T = T} (count_refusal q.case.problem.variables q.channel.bits given) (Err (refusal_by e))
  counts_refused T untouched start end expected replay.NoMemory size left =
      unrefused _ _ (count-none q.case.problem.variables q.channel.bits given (left.0.as_rounds ∙ size) (left.0.as_witnesses ∙ ap (witness_count q.channel.bits) size))
  counts_refused T untouched start end expected (replay.InvalidPowWitness i bits) size left =
      unrefused _ _ (count-none q.case.problem.variables q.channel.bits given (left.0.as_rounds ∙ size) (left.0.as_witnesses ∙ ap (witness_count q.channel.bits) size))
  counts_refused T untouched start end expected (replay.RoundCountMismatch n m) size left =
      let error : RoundCountMismatch q.case.problem.variables (length given.messages) ≡ RoundCountMismatch n m = rw (left.0.0, left.0.1, size) refl in
      refused_as T _ _ (count-rounds q.case.problem.variables q.channel.bits given (λ equal. left.0.2 (left.0.1 ∙ equal ∙ sym size ∙ sym left.0.0)) ∙ ap Some error)
  counts_refused T untouched start end expected (replay.PowWitnessCountMismatch n m) size left =
      let error : PowWitnessCountMismatch (witness_count q.channel.bits q.case.problem.variables) (length given.witnesses) ≡ PowWitnessCountMismatch n m = rw (left.0.0, left.0.1, size) refl in
      refused_as T _ _ (count-witnesses q.case.problem.variables q.channel.bits given (left.0.3 ∙ size)
      (λ equal. left.0.2 (left.0.1 ∙ equal ∙ ap (witness_count q.channel.bits) (sym size) ∙ sym left.0.0)) ∙ ap Some error)
  counts_refused T untouched start end expected e size left = absurd left.1
