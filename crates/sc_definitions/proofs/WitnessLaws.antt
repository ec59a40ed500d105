-- The rounds that an honest prover builds, and the first of a proof whose witness fails.
use Rattle.std.proofs.Common.{◌≡◌, ℕ, zero, suc, ◌+◌, ◌<◌, false, List, [], ◌∷◌, ◌++◌, All, length, take, map, if◌then◌else◌, Option, Some, None, refl, ap, sym, ◌∙◌, append_assoc, arith}
use Rattle.std.specs.Prelude.{Result, Ok, Err}
use Rattle.std.specs.Option.{option_map}
use Rattle.std.specs.List.{slice_get}
use Rattle.std.proofs.lemmas.List.{append-nil}
use Rattle.std.proofs.lemmas.List.Elements.{All-head, All-tail}
use Rattle.std.proofs.lemmas.Option.{same_Some}
use Rattle.sc_definitions.specs.declared.events.Event.{Event}
use Rattle.sc_definitions.specs.Events.{Rules, Extension, NonePasses}
use Rattle.sc_definitions.specs.Transcript.{Round, round_of, sent, round_events, rounds_events, challenge, challenges, HasFirstWitness}
use Rattle.sc_definitions.specs.Replays.{round_passes, AllPass}
use Rattle.sc_definitions.specs.Channels.{channel, IsBuilt, witnesses_of}
use Rattle.sc_definitions.specs.Witnesses.{witness_at, with_witness, round_before, honest_rounds, first_failing}
use Rattle.sc_definitions.proofs.LeastLaws.{least_below-first, least_below-none, least_below-some}

-- ---- built rounds

-- the witnesses of rounds, if they have any, are numbers of elements
abbrev pub AreLow : ℕ → ℕ → List Round → Type 0
AreLow size bits rounds = All (λ w. w < size) (witnesses_of bits rounds)

low_rest : (size bits : ℕ) (r : Round) (rounds : List Round) → AreLow size bits (r ∷ rounds) → AreLow size bits rounds
low_rest size zero r rounds low = low
low_rest size (suc b) r rounds low = All-tail (λ w. w < size) r.witness (map (λ q. q.witness) rounds) low

module _ (R : Rules) (E : Extension) (size : ℕ) where
  -- the first witness that passes is found
  found_first : (bits : ℕ) (h : List Event) (r : Round) (rounds : List Round) → AreLow size bits (r ∷ rounds) → HasFirstWitness R E bits h r →
      witness_at R size bits (h ++ sent E r.values) ≡ Some r.witness
  unfolding HasFirstWitness
  found_first zero h r rounds low first = ap Some (sym first)
  found_first (suc b) h r rounds low first =
      least_below-first size (R.passes (h ++ sent E r.values) (suc b)) r.witness (All-head (λ w. w < size) r.witness (map (λ q. q.witness) rounds) low) first.passes first.least

  -- what is found is the first witness that passes
  first_found : (bits : ℕ) (h : List Event) (values : List ℕ) (w : ℕ) → witness_at R size bits (h ++ sent E values) ≡ Some w → HasFirstWitness R E bits h (round_of values w)
  unfolding HasFirstWitness
  first_found zero h values w is = sym (same_Some _ _ is)
  first_found (suc b) h values w is =
      let first = least_below-some size (R.passes (h ++ sent E values) (suc b)) w is in
      record { passes = first.0; least = first.1 }

  module _ (honest : List ℕ → ℕ → List ℕ) (bits : ℕ) where
    honest_step : (h : List Event) (rs : List ℕ) (n : ℕ) (r : Round) → r.values ≡ honest rs n → witness_at R size bits (h ++ sent E r.values) ≡ Some r.witness →
        honest_rounds honest (channel R E size bits) h rs (suc n)
        ≡ round_before r (honest_rounds honest (channel R E size bits) (h ++ round_events E bits r) (rs ++ challenge R E bits h r ∷ []) n)
    honest_step h rs n r values is =
        let found : witness_at R size bits (h ++ sent E (honest rs n)) ≡ Some r.witness = ap (λ v. witness_at R size bits (h ++ sent E v)) (sym values) ∙ is in
        let same : round_of (honest rs n) r.witness ≡ r = ap (λ v. round_of v r.witness) (sym values) in
        ap (λ t. with_witness t (λ w.
        round_before (round_of (honest rs n) w)
        (honest_rounds honest (channel R E size bits) (h ++ round_events E bits (round_of (honest rs n) w)) (rs ++ challenge R E bits h (round_of (honest rs n) w) ∷ []) n))) found
        ∙ ap (λ q. round_before q (honest_rounds honest (channel R E size bits) (h ++ round_events E bits q) (rs ++ challenge R E bits h q ∷ []) n)) same

    -- built rounds of which each sends what an honest prover sends, with the first witness, are the ones that it builds
    pub honest_rounds-whole : (h : List Event) (rs : List ℕ) (n : ℕ) (rounds : List Round) → length rounds ≡ n → AreLow size bits rounds →
        IsBuilt honest (channel R E size bits) h rs n rounds → honest_rounds honest (channel R E size bits) h rs n ≡ Ok rounds
    honest_rounds-whole h rs zero [] count low b = refl
    honest_rounds-whole h rs (suc n) [] count low b = absurd (omega (arith, count))
    honest_rounds-whole h rs zero (r ∷ rounds) count low b = absurd b
    honest_rounds-whole h rs (suc n) (r ∷ rounds) count low b =
        honest_step h rs n r b.0 (found_first bits h r rounds low b.1)
        ∙ ap (round_before r) (honest_rounds-whole (h ++ round_events E bits r) (rs ++ challenge R E bits h r ∷ []) n rounds (omega (arith, count)) (low_rest size bits r rounds low) b.2)

    none_found : (h : List Event) (rs : List ℕ) (n : ℕ) → witness_at R size bits (h ++ sent E (honest rs n)) ≡ None → honest_rounds honest (channel R E size bits) h rs (suc n) ≡ Err 0
    none_found h rs n is =
        ap (λ t. with_witness t (λ w.
        round_before (round_of (honest rs n) w)
        (honest_rounds honest (channel R E size bits) (h ++ round_events E bits (round_of (honest rs n) w)) (rs ++ challenge R E bits h (round_of (honest rs n) w) ∷ []) n))) is

    -- where no element passes after some of them, that round is the one that has none
    pub honest_rounds-none : (h : List Event) (rs : List ℕ) (n : ℕ) (rounds : List Round) (left : ℕ) → length rounds + suc left ≡ n → AreLow size bits rounds →
        IsBuilt honest (channel R E size bits) h rs n rounds →
        witness_at R size bits ((h ++ rounds_events E bits rounds) ++ sent E (honest (rs ++ challenges R E bits h rounds) left)) ≡ None →
        honest_rounds honest (channel R E size bits) h rs n ≡ Err (length rounds)
    honest_rounds-none h rs zero [] left some low b none = absurd (omega (arith, some))
    honest_rounds-none h rs (suc n) [] left some low b none =
        let same : left ≡ n = omega (arith, some) in
        let at_n : witness_at R size bits (h ++ sent E (honest rs n)) ≡ None =
        ap (λ k. witness_at R size bits (h ++ sent E (honest rs k))) (sym same) ∙ ap (λ t. witness_at R size bits (h ++ sent E (honest t left))) (sym (append-nil rs))
        ∙ ap (λ t. witness_at R size bits (t ++ sent E (honest (rs ++ []) left))) (sym (append-nil h)) ∙ none in
        none_found h rs n at_n
    honest_rounds-none h rs zero (r ∷ rounds) left some low b none = absurd b
    honest_rounds-none h rs (suc n) (r ∷ rounds) left some low b none =
        let h' = h ++ round_events E bits r in
        let rs' = rs ++ challenge R E bits h r ∷ [] in
        let place : h' ++ rounds_events E bits rounds ≡ h ++ (round_events E bits r ++ rounds_events E bits rounds) = append_assoc h (round_events E bits r) (rounds_events E bits rounds) in
        let drawn : rs' ++ challenges R E bits h' rounds ≡ rs ++ challenge R E bits h r ∷ challenges R E bits h' rounds =
        append_assoc rs (challenge R E bits h r ∷ []) (challenges R E bits h' rounds) in
        let later : witness_at R size bits ((h' ++ rounds_events E bits rounds) ++ sent E (honest (rs' ++ challenges R E bits h' rounds) left)) ≡ None =
        ap (λ t. witness_at R size bits (t ++ sent E (honest (rs' ++ challenges R E bits h' rounds) left))) place
        ∙ ap (λ t. witness_at R size bits ((h ++ (round_events E bits r ++ rounds_events E bits rounds)) ++ sent E (honest t left))) drawn ∙ none in
        honest_step h rs n r b.0 (found_first bits h r rounds low b.1)
        ∙ ap (round_before r) (honest_rounds-none h' rs' n rounds left (omega (arith, some)) (low_rest size bits r rounds low) b.2 later)

  positive_if_none : (bits : ℕ) (h : List Event) → witness_at R size bits h ≡ None → 0 < bits
  positive_if_none zero h is = cc
  positive_if_none (suc b) h is = omega arith

  -- at a positive difficulty none is found where no element passes
  pub none_passes : (bits : ℕ) (h : List Event) → 0 < bits → NonePasses R h bits size → witness_at R size bits h ≡ None
  none_passes zero h positive none = absurd (omega (arith, positive))
  none_passes (suc b) h positive none = least_below-none size (R.passes h (suc b)) none

  module _ (honest : List ℕ → ℕ → List ℕ) (bits : ℕ) where
    -- the rounds are built, or there is a difficulty
    abbrev pub IsBuiltOr : List Event → List ℕ → ℕ → Result (List Round) ℕ → Type 0
    IsBuiltOr h rs n (Ok rounds) = (length rounds ≡ n) × IsBuilt honest (channel R E size bits) h rs n rounds
    IsBuiltOr h rs n (Err i) = 0 < bits

    built_before : (h : List Event) (rs : List ℕ) (n w : ℕ) → witness_at R size bits (h ++ sent E (honest rs n)) ≡ Some w →
        (r : Result (List Round) ℕ) → IsBuiltOr (h ++ round_events E bits (round_of (honest rs n) w)) (rs ++ challenge R E bits h (round_of (honest rs n) w) ∷ []) n r →
        IsBuiltOr h rs (suc n) (round_before (round_of (honest rs n) w) r)
    built_before h rs n w is (Ok rounds) b = (ap suc b.0, (refl, first_found bits h (honest rs n) w is, b.1))
    built_before h rs n w is (Err i) b = b

    built_if_found : (h : List Event) (rs : List ℕ) (n : ℕ) (found : Option ℕ) → witness_at R size bits (h ++ sent E (honest rs n)) ≡ found →
        (rest : ℕ → Result (List Round) ℕ) →
        ((w : ℕ) → IsBuiltOr (h ++ round_events E bits (round_of (honest rs n) w)) (rs ++ challenge R E bits h (round_of (honest rs n) w) ∷ []) n (rest w)) →
        IsBuiltOr h rs (suc n) (with_witness found (λ w. round_before (round_of (honest rs n) w) (rest w)))
    built_if_found h rs n None is rest built = positive_if_none bits (h ++ sent E (honest rs n)) is
    built_if_found h rs n (Some w) is rest built = built_before h rs n w is (rest w) (built w)

    -- what an honest prover builds is built
    pub honest_rounds-built : (h : List Event) (rs : List ℕ) (n : ℕ) → IsBuiltOr h rs n (honest_rounds honest (channel R E size bits) h rs n)
    honest_rounds-built h rs zero = (refl, tt)
    honest_rounds-built h rs (suc n) =
        built_if_found h rs n (witness_at R size bits (h ++ sent E (honest rs n))) refl
        (λ w. honest_rounds honest (channel R E size bits) (h ++ round_events E bits (round_of (honest rs n) w)) (rs ++ challenge R E bits h (round_of (honest rs n) w) ∷ []) n)
        (λ w. honest_rounds-built (h ++ round_events E bits (round_of (honest rs n) w)) (rs ++ challenge R E bits h (round_of (honest rs n) w) ∷ []) n)

module _ (R : Rules) (E : Extension) where
  -- ---- rounds of a proof

  -- the round of a proof that is the first to fail is found
  pub first_failing-at : (bits : ℕ) (h : List Event) (rounds : List Round) (i : ℕ) (r : Round) → AllPass R E bits h (take i rounds) → slice_get rounds i ≡ Some r →
      round_passes R E bits (h ++ rounds_events E bits (take i rounds)) r ≡ false → first_failing R E bits h rounds ≡ Some i
  first_failing-at bits h [] i r pass is fails = cc
  first_failing-at bits h (q ∷ rounds) zero r pass is fails =
      let here : round_passes R E bits h q ≡ false =
      ap (round_passes R E bits h) (same_Some _ _ is) ∙ ap (λ t. round_passes R E bits t r) (sym (append-nil h)) ∙ fails in
      ap (λ b. if b then option_map suc (first_failing R E bits (h ++ round_events E bits q) rounds) else Some 0) here
  first_failing-at bits h (q ∷ rounds) (suc i) r pass is fails =
      let place : (h ++ round_events E bits q) ++ rounds_events E bits (take i rounds) ≡ h ++ (round_events E bits q ++ rounds_events E bits (take i rounds)) =
      append_assoc h (round_events E bits q) (rounds_events E bits (take i rounds)) in
      ap (λ b. if b then option_map suc (first_failing R E bits (h ++ round_events E bits q) rounds) else Some 0) pass.0
      ∙ ap (option_map suc) (first_failing-at bits (h ++ round_events E bits q) rounds i r pass.1 is (ap (λ t. round_passes R E bits t r) place ∙ fails))

  -- where all pass there is none
  pub first_failing-none : (bits : ℕ) (h : List Event) (rounds : List Round) → AllPass R E bits h rounds → first_failing R E bits h rounds ≡ None
  first_failing-none bits h [] pass = refl
  first_failing-none bits h (q ∷ rounds) pass =
      ap (λ b. if b then option_map suc (first_failing R E bits (h ++ round_events E bits q) rounds) else Some 0) pass.0
      ∙ ap (option_map suc) (first_failing-none bits (h ++ round_events E bits q) rounds pass.1)
