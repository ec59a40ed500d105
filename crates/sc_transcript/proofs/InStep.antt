-- A replay of the rounds that a prover played.
use Rattle.std.proofs.Common.{◌≡◌, ℕ, zero, suc, ◌+◌, true, false, List, [], ◌∷◌, ◌++◌, length, take, refl, ap, sym, subst, ◌∙◌, Some, Result, Ok, Err, IsErrAnd, ◌⊎◌, inl, inr, append_assoc, arith}
use Rattle.std.proofs.lemmas.List.{append-nil}
use Rattle.std.specs.List.{slice_get}
use Rattle.sc_definitions.specs.declared.events.Event.{Event}
use Rattle.sc_definitions.specs.Rounds.{next_claim, claim_along}
use Rattle.sc_definitions.specs.Events.{Rules, Extension}
use Rattle.sc_definitions.specs.Transcript.{Round, messages_of, round_events, rounds_events, challenge, HasFirstWitness}
use Rattle.sc_definitions.specs.Replays.{round_passes, AllPass}
use Rattle.sc_definitions.specs.Channels.{Channel, Wire, empty_wire, with_rounds, VerifierState, IsReplayed, IsReplayedInPart, FailsAt, IsBuilt}
use Rattle.sc_definitions.specs.ProverStates.{Setting, ProverState, verifier_state_of, IsPlayed}
use Rattle.sc_definitions.proofs.BuiltLaws.{length-messages}
use Rattle.sc_transcript.specs.declared.error.SumcheckError.{SumcheckError}
use Rattle.sc_transcript.specs.declared.error.SumcheckError.TheVariants.{RoundCountMismatch, InvalidPowWitness, PowWitnessCountMismatch, NoMemory}
use Rattle.sc_transcript.specs.declared.rounds.BatchShape.{BatchShape}
use Rattle.sc_transcript.specs.Causes.{cause_of}
use Rattle.sc_transcript.specs.Replayed.{replay_of, IsCounted, LeavesReplay}
use Rattle.sc_transcript.specs.Data.{witness_count}
use Rattle.sc_transcript.proofs.GivenRounds.{given_played, count_witnesses}
use Rattle.sc_transcript.specs.Steps.{rounds_on, ReplaysInPart, IsOutOfStep, LeavesStep}
use Rattle.sc_transcript.specs.Batches.{Batch, BreaksOff}

-- ---- no witness of a built round fails

passes_first : (R : Rules) (E : Extension) (bits : ℕ) (h : List Event) (r : Round) → HasFirstWitness R E bits h r → round_passes R E bits h r ≡ true
unfolding HasFirstWitness round_passes
passes_first R E zero h r w = refl
passes_first R E (suc bits) h r w = w.passes

passes_at : (honest : List ℕ → ℕ → List ℕ) (c : Channel) (h : List Event) (rs : List ℕ) (n : ℕ) (rounds : List Round) (i : ℕ) (r : Round) →
    IsBuilt honest c h rs n rounds → slice_get rounds i ≡ Some r →
    round_passes c.rules c.extension c.bits (h ++ rounds_events c.extension c.bits (take i rounds)) r ≡ true
passes_at honest c h rs n [] i r b is = cc
passes_at honest c h rs zero (q ∷ rounds) i r b is = absurd b
passes_at honest c h rs (suc n) (q ∷ rounds) zero r b is =
    let R = c.rules in
    let E = c.extension in
    let same : q ≡ r = cc in
    ap (λ t. round_passes R E c.bits t r) (append-nil h) ∙ ap (round_passes R E c.bits h) (sym same) ∙ passes_first R E c.bits h q b.1
passes_at honest c h rs (suc n) (q ∷ rounds) (suc i) r b is =
    let R = c.rules in
    let E = c.extension in
    let bits = c.bits in
    ap (λ t. round_passes R E bits t r) (sym (append_assoc h (round_events E bits q) (rounds_events E bits (take i rounds))))
    ∙ passes_at honest c (h ++ round_events E bits q) (rs ++ challenge R E bits h q ∷ []) n rounds i r b.2 is

-- so each of them passes
pub all_pass : (honest : List ℕ → ℕ → List ℕ) (c : Channel) (h : List Event) (rs : List ℕ) (n : ℕ) (rounds : List Round) →
    IsBuilt honest c h rs n rounds → AllPass c.rules c.extension c.bits h rounds
all_pass honest c h rs n [] b = tt
all_pass honest c h rs zero (q ∷ rounds) b = absurd b
all_pass honest c h rs (suc n) (q ∷ rounds) b =
    let R = c.rules in
    let E = c.extension in
    let bits = c.bits in
    (passes_first R E bits h q b.1, all_pass honest c (h ++ round_events E bits q) (rs ++ challenge R E bits h q ∷ []) n rounds b.2)

-- no round of what was built is refused
pub none_failing : (next : ℕ → List ℕ → ℕ → ℕ) (honest : List ℕ → ℕ → List ℕ) (c : Channel) (start end : VerifierState) (n : ℕ) (rounds : List Round) (i : ℕ) →
    IsBuilt honest c start.history [] n rounds → FailsAt next c start end rounds i → ⊥
none_failing next honest c start end n rounds i built there =
    let passes : round_passes c.rules c.extension c.bits there.last there.round ≡ true =
    ap (λ t. round_passes c.rules c.extension c.bits t there.round) there.replays.history
    ∙ passes_at honest c start.history [] n rounds i there.round built there.is in
    let clash : true ≡ false = sym passes ∙ there.test.fails in cc

-- what holds of an error holds of a result that passes it on
pub step_as : {X Y : Type 0} (challenges : X → List ℕ) (number : Y → ℕ) (b : Batch) (u : ProverState) (h h' : List Event) (r : Result (X × X × Y) SumcheckError) (e : SumcheckError) →
    IsErrAnd r (λ x. x ≡ e) → IsOutOfStep b u h h' e → LeavesStep challenges number b u h h' r
step_as challenges number b u h h' (Ok x) e is p = elim is [ ]
step_as challenges number b u h h' (Err x) e is p = subst (IsOutOfStep b u h h') (sym is) p

-- the prover's refusal: the verifier has not begun
pub not_begun : (b : Batch) (u : ProverState) (h : List Event) (e : SumcheckError) → BreaksOff b u e → IsOutOfStep b u h h e
not_begun b u h NoMemory why = inl (why, refl)
not_begun b u h e why = (why, refl)

-- ---- both sides

-- a batch on an empty wire, and a replay over a channel and from a verifier state that are its own by other names
module _ (s : Setting) (t u : ProverState) (rs : List ℕ) (c : Channel) (start : VerifierState) (none_sent : t.wire ≡ empty_wire) (same : c ≡ s.channel) (begun : start ≡ verifier_state_of t)
    (played : IsPlayed s t u rs) where
  -- the wire has the rounds that were played
  wire_is : u.wire ≡ with_rounds s.channel.bits empty_wire played.rounds
  wire_is = played.wire ∙ ap (λ w. with_rounds s.channel.bits w played.rounds) none_sent

  rounds_given : rounds_on u.wire ≡ played.rounds
  rounds_given = ap rounds_on wire_is ∙ given_played _ s.channel t.history [] t.variables played.rounds played.built

  count_rounds : (k : ℕ) → u.variables + k ≡ t.variables → length played.rounds ≡ k
  count_rounds k whole = omega (arith, whole, played.count)

  pub message_count : (k : ℕ) → u.variables + k ≡ t.variables → length u.wire.messages ≡ k
  message_count k whole = ap (λ (w : Wire). length w.messages) wire_is ∙ length-messages played.rounds ∙ count_rounds k whole

  pub found_count : (k : ℕ) → u.variables + k ≡ t.variables → length u.wire.witnesses ≡ witness_count s.channel.bits k
  found_count k whole =
      ap (λ (w : Wire). length w.witnesses) wire_is ∙ count_witnesses s.channel.bits played.rounds ∙ ap (witness_count s.channel.bits) (count_rounds k whole)

  -- its rounds are a replay
  played_replays : IsReplayed (next_claim s.basis s.ops) s.channel (verifier_state_of t) (verifier_state_of u) played.rounds rs
  played_replays = record {
    history = played.history;
    drawn = played.drawn;
    claim = played.claim ∙ ap (claim_along (next_claim s.basis s.ops) t.claim (messages_of played.rounds)) played.drawn;
    passes = all_pass _ s.channel t.history [] t.variables played.rounds played.built;
  }

  pub has_replay : IsReplayed (next_claim s.basis s.ops) c start (verifier_state_of u) (rounds_on u.wire) rs
  has_replay = rw (same, begun, rounds_given) played_replays

  module _ (end : VerifierState) (out : List ℕ) (replays : IsReplayed (next_claim s.basis s.ops) c start end (rounds_on u.wire) out) where
    moved : IsReplayed (next_claim s.basis s.ops) s.channel (verifier_state_of t) end played.rounds out
    moved =
        subst (λ f. IsReplayed (next_claim s.basis s.ops) s.channel f end played.rounds out) begun
        (subst (λ k. IsReplayed (next_claim s.basis s.ops) k start end played.rounds out) same
        (subst (λ given. IsReplayed (next_claim s.basis s.ops) c start end given out) rounds_given replays))

    pub same_challenges : out ≡ rs
    same_challenges = moved.drawn ∙ sym played.drawn

    pub same_histories : end.history ≡ u.history
    same_histories = moved.history ∙ sym played.history

    pub same_claims : end.claim ≡ u.claim
    same_claims = moved.claim ∙ ap (claim_along (next_claim s.basis s.ops) t.claim (messages_of played.rounds)) (sym played.drawn) ∙ sym played.claim

    pub same_ends : end ≡ verifier_state_of u
    same_ends = λ i. record { history = same_histories i; claim = same_claims i }

  -- no round of it is refused
  pub none_invalid : (i : ℕ) (end : VerifierState) → FailsAt (next_claim s.basis s.ops) c start end (rounds_on u.wire) i → ⊥
  none_invalid i end invalid =
      none_failing (next_claim s.basis s.ops) _ s.channel (verifier_state_of t) end t.variables played.rounds i played.built
      (subst (λ f. FailsAt (next_claim s.basis s.ops) s.channel f end played.rounds i) begun
      (subst (λ k. FailsAt (next_claim s.basis s.ops) k start end played.rounds i) same
      (subst (λ given. FailsAt (next_claim s.basis s.ops) c start end given i) rounds_given invalid)))

  -- where it ends in part
  in_part : (end : VerifierState) → IsReplayedInPart (next_claim s.basis s.ops) c start end (rounds_on u.wire) → ReplaysInPart s t u.wire end.history
  in_part end part = record {
    claim = end.claim;
    part = subst (λ f. IsReplayedInPart (next_claim s.basis s.ops) s.channel f end (rounds_on u.wire)) begun
        (subst (λ k. IsReplayedInPart (next_claim s.basis s.ops) k start end (rounds_on u.wire)) same part);
  }

  -- a replay of it is refused for want of memory alone
  pub wants_memory : (history claim : Type 0) (shape : BatchShape) (e : SumcheckError) (end : VerifierState) → IsCounted (replay_of (next_claim s.basis s.ops) c shape start u.wire) →
      LeavesReplay (history × claim) (replay_of (next_claim s.basis s.ops) c shape start u.wire) (Err (cause_of e)) end →
      (e ≡ NoMemory) × (history ⊎ ReplaysInPart s t u.wire end.history)
  wants_memory history claim shape NoMemory end counted left = (
    refl,
    elim left.1 [
      | inl none ↦ inl none.0
      | inr part ↦ inr (in_part end (record { count = part.count; rs = part.rs; replays = part.walked.replays }))
    ],
  )
  wants_memory history claim shape (InvalidPowWitness i bits) end counted left = absurd (none_invalid i end left.1.1.at)
  wants_memory history claim shape (RoundCountMismatch n m) end counted left = absurd (left.0.2 (left.0.1 ∙ counted.as_rounds ∙ sym left.0.0))
  wants_memory history claim shape (PowWitnessCountMismatch n m) end counted left = absurd (left.0.2 (left.0.1 ∙ counted.as_witnesses ∙ sym left.0.0))
  wants_memory history claim shape e end counted left = absurd left.1
