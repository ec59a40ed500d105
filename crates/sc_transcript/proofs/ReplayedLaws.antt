-- What a replay leaves, round after round and by its answer.
use Rattle.std.proofs.Common.{◌≡◌, ℕ, ◌+◌, ◌<◌, ◌≤◌, List, [], ◌∷◌, ◌++◌, take, map, ap, sym, subst, ◌∙◌, refl, Option, Some, None, IsSome, arith}
use Rattle.std.specs.List.{slice_get}
use Rattle.std.proofs.lemmas.Bool.Decides.{nat_tests}
use Rattle.std.proofs.lemmas.List.{map-append}
use Rattle.std.proofs.lemmas.Option.{get_or_from_slice_get, slice_get_within}
use Rattle.sc_definitions.specs.declared.events.Event.{Event}
use Rattle.sc_definitions.specs.Events.{Rules, Extension}
use Rattle.sc_definitions.specs.Transcript.{Round}
use Rattle.sc_definitions.specs.Channels.{Channel, channel, VerifierState, verifier_state, IsTaken, IsReplayed}
use Rattle.sc_definitions.proofs.ReplayLaws.{replayed-none, replayed-more}
use Rattle.sc_transcript.specs.Rounds.{witness_count}

-- ---- the loop over the rounds

-- the same rules at the same difficulty are the same channel
pub same_channel : {R R' : Rules} {E : Extension} (size : ℕ) {bits bits' : ℕ} → R ≡ R' → bits ≡ bits' → channel R E size bits ≡ channel R' E size bits'
same_channel size er eb = rw (er, eb) refl

pub replays_begin : (next : ℕ → List ℕ → ℕ → ℕ) (c : Channel) (h₀ h : List Event) (claim : ℕ) (rs : List ℕ) → h ≡ h₀ → rs ≡ [] →
    IsReplayed next c (verifier_state h₀ claim) (verifier_state h claim) [] rs
replays_begin next c h₀ h claim rs eh er = rw (eh, er) (replayed-none next c (verifier_state h₀ claim))

pub replays_step : {X : Type 0} (number : X → ℕ) {next : ℕ → List ℕ → ℕ → ℕ} {c c₁ : Channel} {before : VerifierState} (at after : VerifierState) (rounds : List Round) (i : ℕ) (r : Round) (out out₁ : List X) (x : X) →
    slice_get rounds i ≡ Some r → c₁ ≡ c → IsReplayed next c before at (take i rounds) (map number out) →
    IsTaken c₁ at.history r (number x) after.history → after.claim ≡ next at.claim r.values (number x) → out₁ ≡ out ++ x ∷ [] →
    IsReplayed next c before after (take (i + 1) rounds) (map number out₁)
replays_step number {next} {c} {before} at after rounds i r out out₁ x is same p q ec eo =
    let taken = subst (λ k. IsTaken k at.history r (number x) after.history) same q in
    subst (IsReplayed next c before after (take (i + 1) rounds)) (sym (ap (map number) eo ∙ map-append number out (x ∷ [])))
    (replayed-more next c before at after rounds i r (map number out) (number x) (slice_get_within rounds i r is) (get_or_from_slice_get rounds i r r is) p taken ec)

pub room_left : (len i n cap : ℕ) → len ≡ i → i < n → n ≤ cap → len < cap
room_left len i n cap e lt le = omega arith

-- a round at a positive difficulty has a witness
pub witness_due : (bits n i k : ℕ) → 0 < bits → k ≡ witness_count bits n → i < n → i < k
witness_due bits n i k p e lt = grind (arith, nat_tests)

pub some_is_some : {W : Type 0} (w : Option W) → IsSome w → w ≡ None → ⊥
some_is_some None s e = cc
some_is_some (Some x) s e = cc
