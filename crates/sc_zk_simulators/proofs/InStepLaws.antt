-- A replay of rounds that were simulated.
use Rattle.std.proofs.Common.{◌≡◌, ℕ, ◌<◌, ◌≤◌, ◌+◌, List, [], ◌++◌, length, get_or, take, refl, ap, sym, subst, ◌∙◌, Some, Result, Ok, Err, ◌⊎◌, inl, inr, arith}
use Rattle.std.specs.List.{slice_get}
use Rattle.sc_definitions.specs.declared.events.Event.{Event}
use Rattle.sc_definitions.specs.Ring.{Ops}
use Rattle.sc_definitions.specs.Events.{Rules, Extension}
use Rattle.sc_challenger.specs.Parties.{Party, channel_by}
use Rattle.sc_definitions.specs.Transcript.{Round, rounds_events, challenges}
use Rattle.sc_definitions.specs.Channels.{Channel, Wire, empty_wire, with_rounds, VerifierState, verifier_state, IsReplayed, FailsAt}
use Rattle.sc_definitions.proofs.BuiltLaws.{length-messages}
use Rattle.sc_transcript.specs.declared.error.SumcheckError.{SumcheckError}
use Rattle.sc_transcript.specs.declared.error.SumcheckError.TheVariants as errors
use Rattle.sc_transcript.specs.Data.{witness_count}
use Rattle.sc_transcript.specs.Steps.{rounds_on}
use Rattle.sc_transcript.specs.Replayed.{AreCounted}
use Rattle.sc_transcript.proofs.GivenRounds.{given_played, count_witnesses}
use Rattle.sc_transcript.proofs.InStep.{none_failing}
use Rattle.sc_zk_definitions.specs.Masks.{next_target, target_after}
use Rattle.sc_zk_definitions.specs.MaskedTranscripts.{Head, head, wire_length}
use Rattle.sc_zk_definitions.specs.MaskedBatches.{HeadedBatch, IsHeadPart, IsSimulated, after_head, head_verifier_state, combination_of}
use Rattle.sc_zk_definitions.proofs.MaskedLaws.{simulations_replay}
use Rattle.sc_zk_transcript.specs.declared.shape.ZkSumcheckShape.{ZkSumcheckShape}
use Rattle.sc_zk_transcript.specs.Shapes.{fixed_by, masked_batch, IsFit}
use Rattle.sc_zk_rounds.specs.Verified.{Told, MaskedReplay, claim_asked, begins_at, LeavesMaskedReplay}
use Rattle.sc_zk_rounds.proofs.InStepLaws.{built-width, built-take, fit-or-not}
use Rattle.sc_zk_rounds.specs.Data.{Sent}
use Rattle.sc_zk_simulators.specs.Drafts.{Draft}
use Rattle.sc_zk_simulators.specs.Simulations.{Answer, IsWhole, simulation_by}
use Rattle.sc_zk_simulators.specs.InStep.{RunFigures, IsAccepted, SimulatesInStep}
use Rattle.sc_zk_simulators.specs.Sendings.{sending, IsSentInPart, wire_at}

-- what an accepted replay tells
pub record IsTold (o : Ops) (b : HeadedBatch) (ws : List (List ℕ)) (rs : List ℕ) (h₀ : List Event) (told : Told) (h : List Event) : Type 0 where
  pub challenges : told.randomness ≡ rs
  pub eps : told.eps ≡ combination_of b.channel b.shape b.given b.begun
  pub residual : told.residual ≡ target_after o (head_verifier_state o b).claim ws rs
  pub history : h ≡ h₀

module _ (base o : Ops) (c : Channel) (shape : ZkSumcheckShape) (H : Head) (begun : List Event) (ws : List (List ℕ)) (rounds : List Round) (rs : List ℕ) (h₀ : List Event)
    (bits : shape.pow_bits ≡ c.bits) (count : shape.num_rounds ≡ length ws)
    (sent : IsSimulated (record { channel = c; shape = fixed_by shape; given = H; begun = begun }) ws rounds rs h₀) where
  abbrev b : HeadedBatch
  b = record { channel = c; shape = fixed_by shape; given = H; begun = begun }

  -- what was sent, and its replay
  abbrev w : Wire
  w = with_rounds c.bits empty_wire rounds

  abbrev asked : MaskedReplay
  asked = claim_asked base o c shape H begun w

  given : rounds_on w ≡ rounds
  given = given_played (wire_at ws) c (after_head b) [] (length ws) rounds sent.sent.1

  size : length rounds ≡ length ws
  size = sym (length-messages rounds) ∙ ap length sent.sent.0

  counted : AreCounted (masked_batch shape) (length w.messages) (length w.witnesses)
  counted = record {
    as_rounds = length-messages rounds ∙ size ∙ sym count;
    as_witnesses = count_witnesses c.bits rounds ∙ ap (witness_count c.bits) (size ∙ sym count) ∙ ap (λ n. witness_count n shape.num_rounds) (sym bits);
  }

  -- a replay of what was sent is one of the rounds that were simulated
  moved : (end : VerifierState) (out : List ℕ) → IsReplayed (next_target o) c (begins_at asked) end (rounds_on w) out → IsReplayed (next_target o) c (head_verifier_state o b) end rounds out
  moved end out r = subst (λ qs. IsReplayed (next_target o) c (head_verifier_state o b) end qs out) given r

  -- it is accepted, and leaves this
  pub accepted : {X : Type 0} (told : X → Told) (x : X) (h : List Event) → LeavesMaskedReplay told asked (Ok x) h → IsTold o b ws rs h₀ (told x) h
  accepted told x h left =
      let r = moved (verifier_state h (told x).residual) (told x).randomness left.walked.replays in
      let q = (simulations_replay o b ws rounds rs h₀ sent).1 in
      record {
        challenges = r.drawn ∙ sym q.drawn;
        eps = left.eps;
        residual = r.claim ∙ ap (λ ms. target_after o (head_verifier_state o b).claim ms (challenges c.rules c.extension c.bits (after_head b) rounds)) sent.sent.0
            ∙ ap (target_after o (head_verifier_state o b).claim ws) (sym q.drawn);
        history = r.history ∙ sym q.history;
      }

  -- it is refused for want of memory alone
  pub refused : {X : Type 0} (told : X → Told) (e : SumcheckError) (h : List Event) → IsFit base shape → ((i : ℕ) → i < length ws → length (get_or ws i []) ≡ wire_length shape.ell_zk) →
      LeavesMaskedReplay told asked (Err e) h → (e ≡ errors.NoMemory) × (IsHeadPart c (fixed_by shape) H.claim begun h ⊎ IsSentInPart (sending c (after_head b) ws) h)
  refused told errors.NoMemory h fit wide left = (
    refl,
    elim left.1 [
      | inl head ↦ inl head
      | inr part ↦ inr (record {
        rounds = take part.1.count rounds;
        built = built-take (wire_at ws) c (after_head b) [] (length ws) rounds part.1.count sent.sent.1;
        history = part.1.walked.replays.history ∙ ap (λ qs. after_head b ++ rounds_events c.extension c.bits (take part.1.count qs)) given;
      })
    ],
  )
  refused told (errors.InvalidPowWitness i n) h fit wide left =
      absurd (none_failing (next_target o) (wire_at ws) c (head_verifier_state o b) (verifier_state h left.1.0) (length ws) rounds i sent.sent.1 (subst (λ qs. FailsAt (next_target o) c (head_verifier_state o b) (verifier_state h left.1.0) qs i) given left.1.1.1.at))
  refused told (errors.RoundCountMismatch n k) h fit wide left = absurd (left.0.1.2 (left.0.1.1 ∙ counted.as_rounds ∙ sym left.0.1.0))
  refused told (errors.PowWitnessCountMismatch n k) h fit wide left = absurd (left.0.1.2 (left.0.1.1 ∙ counted.as_witnesses ∙ sym left.0.1.0))
  refused told (errors.WireSizeMismatch i n k) h fit wide left =
      let narrow = left.1.1.1 in
      let few : 0 + length rounds ≤ length ws = omega (arith, size) in
      let width : length narrow.round.values ≡ wire_length shape.ell_zk =
      built-width (wire_at ws) c (length ws) (wire_length shape.ell_zk) (λ qs j low. wide (length qs) low) (after_head b) [] (length ws) rounds i narrow.round sent.sent.1 few
      (subst (λ qs. slice_get qs i ≡ Some narrow.round) given narrow.is) in
      absurd (narrow.other (narrow.counts ∙ width))
  refused told e h fit wide left = absurd (fit-or-not base shape e fit left.0)

-- ---- a run, by what the calls of both sides leave

-- the simulation over a challenger's copy is that over the challenger
pub copied : {K : Type 0} (p q : Party) (E : Extension) (size : ℕ) (shape : ZkSumcheckShape) (claim : ℕ) (d : Draft K) → q.rules ≡ p.rules → q.history ≡ p.history →
    simulation_by q E size shape claim d ≡ simulation_by p E size shape claim d
copied p q E size shape claim d rules history =
    let of = λ (R : Rules) (h : List Event). simulation_by (record { rules = R; history = h; spare = 0 }) E size shape claim d in
    ap (λ R. of R q.history) rules ∙ ap (of p.rules) history

module _ {K : Type 0} (base o : Ops) (p : Party) (E : Extension) (size : ℕ) (shape : ZkSumcheckShape) (claim : ℕ) (d : Draft K) (a : Answer) (h₀ : List Event)
    (count : shape.num_rounds ≡ length d.wires) (whole : IsWhole (simulation_by p E size shape claim d) a h₀)
    (words : List ℕ) (mu : ℕ) (w : Wire) (words_is : words ≡ d.words) (mu_is : mu ≡ d.mu) (wire_is : w ≡ a.sent.wire) where
  abbrev c : Channel
  c = channel_by p E size shape.pow_bits

  -- what is replayed is what was simulated
  same : claim_asked base o c shape (head claim words mu) p.history w ≡ claim_asked base o c shape (head claim d.words d.mu) p.history (with_rounds c.bits empty_wire whole.rounds)
  same =
      ap (λ ws. claim_asked base o c shape (head claim ws mu) p.history w) words_is ∙ ap (λ n. claim_asked base o c shape (head claim d.words n) p.history w) mu_is
      ∙ ap (claim_asked base o c shape (head claim d.words d.mu) p.history) (wire_is ∙ whole.wire)

  -- the verifier refuses: memory ran out
  pub verifier-stops : {X Y : Type 0} (told : X → Told) (view : Y → RunFigures) (e : SumcheckError) (h : List Event) (result : Result Y SumcheckError) → IsFit base shape →
      ((i : ℕ) → i < length d.wires → length (get_or d.wires i []) ≡ wire_length shape.ell_zk) → result ≡ Err e →
      LeavesMaskedReplay told (claim_asked base o c shape (head claim words mu) p.history w) (Err e) h → SimulatesInStep view o (simulation_by p E size shape claim d) result h
  verifier-stops told view e h result fit wide failed left =
      let why = refused base o c shape (head claim d.words d.mu) p.history d.wires whole.rounds a.challenges h₀ refl count whole.simulated told e h fit wide
      (subst (λ x. LeavesMaskedReplay told x (Err e) h) same left) in
      subst (λ r. SimulatesInStep view o (simulation_by p E size shape claim d) r h) (sym (failed ∙ ap Err why.0)) why.1

  -- or it accepts
  pub verifier-accepts : {X : Type 0} (told : X → Told) (x : X) (h : List Event) (f : RunFigures) → f.answer.sent ≡ a.sent → f.answer.challenges ≡ (told x).randomness → f.eps ≡ (told x).eps →
      f.residual ≡ (told x).residual → LeavesMaskedReplay told (claim_asked base o c shape (head claim words mu) p.history w) (Ok x) h → IsAccepted o (simulation_by p E size shape claim d) f h
  verifier-accepts told x h f sent challenges eps residual left =
      let s = simulation_by p E size shape claim d in
      let t = accepted base o c shape (head claim d.words d.mu) p.history d.wires whole.rounds a.challenges h₀ refl count whole.simulated told x h
      (subst (λ y. LeavesMaskedReplay told y (Ok x) h) same left) in
      let drawn : f.answer.challenges ≡ a.challenges = challenges ∙ t.challenges in
      record {
        whole = record {
          rounds = whole.rounds;
          simulated = subst (IsSimulated s.batch s.wires whole.rounds f.answer.challenges) (sym t.history)
              (subst (λ rs. IsSimulated s.batch s.wires whole.rounds rs h₀) (sym drawn) whole.simulated);
          mu = ap (λ (v : Sent). v.mu) sent ∙ whole.mu;
          wire = ap (λ (v : Sent). v.wire) sent ∙ whole.wire;
        };
        eps = eps ∙ t.eps;
        residual = residual ∙ t.residual ∙ ap (target_after o (head_verifier_state o s.batch).claim s.wires) (sym drawn);
      }
