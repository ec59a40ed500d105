-- Rounds that are replayed one after the other.
use Rattle.std.proofs.Common.{◌≡◌, ℕ, ◌+◌, ◌<◌, List, [], ◌∷◌, ◌++◌, All, take, length, map, ap, sym, subst, ◌∙◌, refl, Option, Some, Err, IsSome}
use Rattle.std.specs.List.{slice_get}
use Rattle.std.proofs.lemmas.List.{take_more, map-append}
use Rattle.std.proofs.lemmas.List.Elements.{All-append, All-cons, All-nil}
use Rattle.std.proofs.lemmas.Option.{get_or_from_slice_get, slice_get_within}
use Rattle.sc_definitions.specs.Events.{Extension}
use Rattle.sc_definitions.specs.Transcript.{Round, messages_of}
use Rattle.sc_definitions.specs.Channels.{Channel, VerifierState, verifier_state, IsTaken, IsReplayed, WitnessFails}
use Rattle.sc_definitions.proofs.ReplayLaws.{take_whole}
use Rattle.sc_transcript.specs.declared.error.RoundError.{RoundError}
use Rattle.sc_transcript.specs.declared.error.RoundError.TheVariants.{WrongWidth, MissingWitness, InvalidWitness, NoMemory}
use Rattle.sc_transcript.specs.Rounds.{witness_count}
use Rattle.sc_transcript.specs.Drivers.{Driver, channel_of, RejectsRound}
use Rattle.sc_transcript.specs.Walks.{AreWide, Walk, first_of, IsWalked, LeavesWalk}
use Rattle.sc_transcript.proofs.ReplayedLaws.{replays_begin, replays_step, witness_due, some_is_some}

-- ---- widths

pub wide_more : (width : ℕ) (rounds : List Round) (i : ℕ) (r : Round) → slice_get rounds i ≡ Some r → length r.values ≡ width → AreWide width (take i rounds) →
    AreWide width (take (i + 1) rounds)
wide_more width rounds i r is sends wide =
    let P = λ (values : List ℕ). length values ≡ width in
    let more : take (i + 1) rounds ≡ take i rounds ++ r ∷ [] =
    take_more rounds i r (slice_get_within rounds i r is) ∙ ap (λ x. take i rounds ++ x ∷ []) (get_or_from_slice_get rounds i r r is) in
    let all = All-append P (messages_of (take i rounds)) (r.values ∷ []) wide (All-cons P r.values [] sends (All-nil P)) in
    subst (All P) (sym (ap messages_of more ∙ map-append (λ q. q.values) (take i rounds) (r ∷ []))) all

-- ---- round after round

pub walked_none : (p : Walk) (rs : List ℕ) → rs ≡ [] → IsWalked (first_of 0 p) rs p.start
walked_none p rs none = record { wide = All-nil _; replays = replays_begin p.next p.channel p.start.history p.start.history p.start.claim rs refl none }

pub walked_more : {X : Type 0} (number : X → ℕ) (p : Walk) {c : Channel} (i : ℕ) (r : Round) (at after : VerifierState) (out out₁ : List X) (x : X) →
    slice_get p.rounds i ≡ Some r → c ≡ p.channel → length r.values ≡ p.width → IsWalked (first_of i p) (map number out) at → IsTaken c at.history r (number x) after.history →
    after.claim ≡ p.next at.claim r.values (number x) → out₁ ≡ out ++ x ∷ [] → IsWalked (first_of (i + 1) p) (map number out₁) after
walked_more number p i r at after out out₁ x is same sends walked taken claim more = record {
  wide = wide_more p.width p.rounds i r is sends walked.wide;
  replays = replays_step number at after p.rounds i r out out₁ x is same walked.replays taken claim more;
}

pub walked_all : (p : Walk) (i : ℕ) {rs : List ℕ} {after : VerifierState} → i ≡ length p.rounds → IsWalked (first_of i p) rs after → IsWalked p rs after
walked_all p i {rs} {after} count walked =
    let whole = take_whole p.rounds i count in record {
      wide = subst (AreWide p.width) whole walked.wide;
      replays = subst (λ rounds. IsReplayed p.next p.channel p.start after rounds rs) whole walked.replays;
    }

-- the next round is rejected
pub walk_rejected : {K W : Type 0} (p : Walk) (E : Extension) (d d' : Driver K) (i n k : ℕ) (r : Round) (claim : ℕ) (rs : List ℕ) (came : Option W) (e : RoundError) →
    channel_of E d ≡ p.channel → d.shape.width ≡ p.width → d.played ≡ i → i < n → k ≡ witness_count p.channel.bits n → IsWalked (first_of i p) rs (verifier_state d.history claim) →
    slice_get p.rounds i ≡ Some r → (i < k → IsSome came) → RejectsRound E d d' r came (Some e) → LeavesWalk p (Err (Some e)) (verifier_state d'.history claim)
walk_rejected p E d d' i n k r claim rs came NoMemory same width place low count before is some told =
    record { count = i; rs = rs; walked = subst (λ h. IsWalked (first_of i p) rs (verifier_state h claim)) (sym told.why.1) before }
walk_rejected p E d d' i n k r claim rs came (WrongWidth j expected actual) same width place low count before is some told =
    let why = told.why in
    let at : j ≡ i = why.0 ∙ place in (
      why.1 ∙ width,
      rw at (record { rs = rs; walked = subst (λ h. IsWalked (first_of i p) rs (verifier_state h claim)) (sym why.4) before; round = r; is = is; counts = why.2; other = λ e. why.3 (sym why.2 ∙ e ∙ sym width) }),
    )
walk_rejected p E d d' i n k r claim rs came (MissingWitness j bits) same width place low count before is some told =
    let positive : 0 < p.channel.bits = subst (λ t. 0 < t) (ap (λ (ch : Channel). ch.bits) same) told.why.3 in
    absurd (some_is_some came (some (witness_due p.channel.bits n i k positive count low)) told.why.4)
walk_rejected p E d d' i n k r claim rs came (InvalidWitness j bits) same width place low count before is some told =
    let why = told.why in
    let at : j ≡ i = why.0 ∙ place in
    let fails = subst (λ ch. WitnessFails ch d.history r d'.history) same why.4 in (
      why.1 ∙ ap (λ (ch : Channel). ch.bits) same,
      rw at (record {
        wide = wide_more p.width p.rounds i r is (why.2 ∙ width) before.wide;
        at = record { rs = rs; last = d.history; replays = before.replays; round = r; is = is; test = fails };
      }),
    )
walk_rejected p E d d' i n k r claim rs came e same width place low count before is some told = absurd told.why
