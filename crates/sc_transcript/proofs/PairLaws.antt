-- The replay of rounds of two values, as its errors tell it.
use Rattle.std.proofs.Common.{◌≡◌, ℕ, zero, suc, List, [], ◌∷◌, length, map, vec_len, refl, sym, subst, ◌∙◌, inr, Some, Result, Err}
use Rattle.std.specs.List.{slice_get}
use Rattle.sc_definitions.specs.Transcript.{Round, round_of}
use Rattle.sc_definitions.specs.Replays.{given_rounds}
use Rattle.sc_definitions.specs.Channels.{VerifierState}
use Rattle.sc_table.specs.declared.strategy.RoundMessage.{RoundMessage}
use Rattle.sc_transcript.specs.declared.error.RoundError.{RoundError}
use Rattle.sc_transcript.specs.declared.error.RoundError.TheVariants as rounds
use Rattle.sc_transcript.specs.declared.error.SumcheckError.{SumcheckError}
use Rattle.sc_transcript.specs.Causes.{told_as, cause_of}
use Rattle.sc_transcript.specs.Data.{pair_of, messages_in, witnesses_in}
use Rattle.sc_transcript.specs.Drivers.{answer_as}
use Rattle.sc_transcript.specs.Walks.{Walk, LeavesWalk}
use Rattle.std.proofs.lemmas.List.{length-map}
use Rattle.sc_transcript.specs.Replayed.{Replay, AreCounted, IsCounted, LeavesReplay}
use Rattle.sc_transcript.specs.declared.rounds.BatchShape.{BatchShape}
use Rattle.sc_transcript.specs.declared.data.SumcheckData.{SumcheckData}

-- each round of messages sends two values
pub pairs_wide : {X : Type 0} (number : X → ℕ) (ms : List (RoundMessage X)) (ws : List ℕ) (i : ℕ) (r : Round) → slice_get (given_rounds (map (pair_of number) ms) ws) i ≡ Some r →
    length r.values ≡ 2
pairs_wide number [] ws i r is = absurd cc
pairs_wide number (m ∷ ms) [] zero r is =
    let same : round_of (pair_of number m) 0 ≡ r = cc in
    subst (λ (q : Round). length q.values ≡ 2) same refl
pairs_wide number (m ∷ ms) (w ∷ ws) zero r is =
    let same : round_of (pair_of number m) w ≡ r = cc in
    subst (λ (q : Round). length q.values ≡ 2) same refl
pairs_wide number (m ∷ ms) [] (suc i) r is = pairs_wide number ms [] i r is
pairs_wide number (m ∷ ms) (w ∷ ws) (suc i) r is = pairs_wide number ms ws i r is

-- how many rounds and witnesses data puts on the wire
pub came_counted : {F EF : Type 0} (base : F → ℕ) (number : EF → ℕ) (d : SumcheckData F EF) (shape : BatchShape) →
    AreCounted shape (vec_len d.polynomial_evaluations) (vec_len d.pow_witnesses) → AreCounted shape (length (messages_in number d)) (length (witnesses_in base d))
came_counted base number d shape are = record {
  as_rounds = length-map _ _ ∙ sym d.polynomial_evaluations.ok.0 ∙ are.as_rounds;
  as_witnesses = length-map _ _ ∙ sym d.pow_witnesses.ok.0 ∙ are.as_witnesses;
}

-- one of the rounds is rejected, of which none has another number of values than it is to have
pub pairs_left : {X : Type 0} (untouched : Type 0) (value : X → List ℕ) (p : Replay) {w : Walk} → w ≡ p.walk → ((i : ℕ) (r : Round) → slice_get p.walk.rounds i ≡ Some r → length r.values ≡ p.walk.width) →
    (e : RoundError) (result : Result X SumcheckError) (after : VerifierState) → IsCounted p → result ≡ Err (told_as e) → LeavesWalk w (Err (Some e)) after →
    LeavesReplay untouched p (answer_as value cause_of result) after
pairs_left untouched value p same wide e result after counts is left = told e is (subst (λ (w : Walk). LeavesWalk w (Err (Some e)) after) same left) where
  told : (e : RoundError) → result ≡ Err (told_as e) → LeavesWalk p.walk (Err (Some e)) after → LeavesReplay untouched p (answer_as value cause_of result) after
  told rounds.NoMemory is left = rw is (counts, inr left)
  told (rounds.WrongWidth i expected actual) is left =
      let narrow = left.1 in
      absurd (narrow.other (narrow.counts ∙ wide i narrow.round narrow.is))
  told (rounds.InvalidWitness i bits) is left = rw is (counts, left)
  told e is left = absurd left
