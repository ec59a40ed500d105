-- What one round appends, from what its calls append.
use Rattle.std.proofs.Common.{◌≡◌, Option, Result, Err, ℕ, zero, suc, ◌+◌, ◌<◌, true, false, List, [], ◌∷◌, ◌++◌, length, get_or, map, take, flat_map, replicate, refl, ap, sym, ◌∙◌, subst, append_assoc, arith}
use Rattle.std.proofs.lemmas.List.{append-nil, map-append, take_more}
use Rattle.std.proofs.lemmas.Grind.{flat_map-append}
use Rattle.sc_definitions.specs.declared.events.Event.{Event}
use Rattle.sc_definitions.specs.declared.events.Event.TheVariants.{Word, Draw, Test}
use Rattle.sc_definitions.specs.Events.{Rules, Extension, words, extension_draw, IsFirstWitness}
use Rattle.sc_definitions.specs.Transcript.{round_of, sent, witness_events, before_draw, round_events, challenge, HasFirstWitness}
use Rattle.sc_definitions.specs.Replays.{round_passes}
use Rattle.sc_definitions.specs.Channels.{channel, IsSent, IsTaken, WitnessFails}
use Rattle.std.specs.Option.{option_map_or}
use Rattle.sc_transcript.specs.declared.rounds.WitnessError.{WitnessError}
use Rattle.sc_transcript.specs.declared.rounds.WitnessError.TheVariants.{Missing, Invalid}
use Rattle.sc_transcript.specs.Rounds.{LeavesTested, LeavesTaken}
use Rattle.sc_definitions.specs.Seeds.{seed_words, quadratic_separator, quadratic_seed}
use Rattle.sc_definitions.specs.Tables.{Basis}

-- the words of one value more
sent-append : (E : Extension) (xs : List ℕ) (x : ℕ) → sent E (xs ++ x ∷ []) ≡ sent E xs ++ words (E.parts x)
unfolding sent
sent-append E xs x =
    ap words (flat_map-append E.parts xs (x ∷ []) ∙ ap (λ t. flat_map E.parts xs ++ t) (append-nil (E.parts x)))
    ∙ map-append _ (flat_map E.parts xs) (E.parts x)

-- no values have no words
pub sent_none : (E : Extension) (h : List Event) → h ≡ h ++ sent E []
unfolding sent
sent_none E h = sym (append-nil h)

-- values that are observed one after the other
pub sent_more : {X : Type 0} (E : Extension) (number : X → ℕ) (values : List X) (i : ℕ) (x : X) (h h₁ h₂ : List Event) → i < length values → x ≡ get_or values i x →
    h₁ ≡ h ++ sent E (map number (take i values)) → h₂ ≡ h₁ ++ words (E.parts (number x)) → h₂ ≡ h ++ sent E (map number (take (i + 1) values))
sent_more E number values i x h h₁ h₂ low is before now =
    let others = map number (take i values) in
    let all : map number (take (i + 1) values) ≡ others ++ number x ∷ [] =
    ap (map number) (take_more values i x low ∙ ap (λ y. take i values ++ y ∷ []) (sym is)) ∙ map-append number (take i values) (x ∷ []) in
    now ∙ ap (λ t. t ++ words (E.parts (number x))) before ∙ append_assoc h (sent E others) (words (E.parts (number x)))
    ∙ ap (λ t. h ++ t) (sym (sent-append E others (number x))) ∙ ap (λ t. h ++ sent E t) (sym all)

-- what a positive difficulty appends
pub tested_positive : (bits w : ℕ) (h h₁ : List Event) → 0 < bits → h₁ ≡ h ++ Word w ∷ Test bits ∷ [] → h₁ ≡ h ++ witness_events bits w
tested_positive zero w h h₁ positive is = absurd (omega (arith, positive))
tested_positive (suc b) w h h₁ positive is = is

-- and without one nothing
pub tested_none : (bits w : ℕ) (h : List Event) → bits ≡ 0 → h ≡ h ++ witness_events bits w
tested_none zero w h none = sym (append-nil h)
tested_none (suc b) w h none = absurd (omega (arith, none))

module _ (R : Rules) (E : Extension) (size bits : ℕ) (h h₁ : List Event) (values : List ℕ) (w : ℕ) (absorbed : h₁ ≡ h ++ sent E values) where
  -- what stands before the draw
  pub round_before : (h₂ : List Event) → h₂ ≡ h₁ ++ witness_events bits w → h₂ ≡ h ++ before_draw E bits (round_of values w)
  unfolding before_draw
  round_before h₂ tested = tested ∙ ap (λ t. t ++ witness_events bits w) absorbed ∙ append_assoc h (sent E values) (witness_events bits w)

  -- the history after the draw
  round_grown : (n : ℕ) (h₂ h₃ : List Event) → h₂ ≡ h₁ ++ witness_events bits w → E.degree ≡ n → h₃ ≡ h₂ ++ replicate n Draw → h₃ ≡ h ++ round_events E bits (round_of values w)
  unfolding round_events
  round_grown n h₂ h₃ tested degree drawn =
      drawn ∙ ap (λ k. h₂ ++ replicate k Draw) (sym degree) ∙ ap (λ t. t ++ replicate E.degree Draw) (round_before h₂ tested)
      ∙ append_assoc h (before_draw E bits (round_of values w)) (replicate E.degree Draw)

  -- the challenge
  round_drawn : (R' : Rules) (h₂ : List Event) (x : ℕ) → h₂ ≡ h₁ ++ witness_events bits w → R' ≡ R → x ≡ extension_draw R' E h₂ → x ≡ challenge R E bits h (round_of values w)
  unfolding challenge
  round_drawn R' h₂ x tested same is = is ∙ ap (λ S. extension_draw S E h₂) same ∙ ap (extension_draw R E) (round_before h₂ tested)

  -- whether a round passes is its test
  passes_tested : 0 < bits → round_passes R E bits h (round_of values w) ≡ R.passes h₁ bits w
  unfolding round_passes
  passes_tested positive = tests bits positive where
    tests : (b : ℕ) → 0 < b → round_passes R E b h (round_of values w) ≡ R.passes h₁ b w
    tests zero positive = absurd (omega (arith, positive))
    tests (suc b) positive = ap (λ t. R.passes t (suc b) w) (sym absorbed)

  -- the witness is the first that passes
  round_first : (0 < bits → IsFirstWitness R h₁ bits w) → (bits ≡ 0 → w ≡ 0) → HasFirstWitness R E bits h (round_of values w)
  unfolding HasFirstWitness
  round_first positive none = first bits positive none where
    first : (b : ℕ) → (0 < b → IsFirstWitness R h₁ b w) → (b ≡ 0 → w ≡ 0) → HasFirstWitness R E b h (round_of values w)
    first zero positive none = none refl
    first (suc b) positive none = subst (λ t. IsFirstWitness R t (suc b) w) absorbed (positive (omega arith))

  -- it passes, where it is tested
  round_passing : (0 < bits → R.passes h₁ bits w ≡ true) → round_passes R E bits h (round_of values w) ≡ true
  unfolding round_passes
  round_passing tested = passing bits tested where
    passing : (b : ℕ) → (0 < b → R.passes h₁ b w ≡ true) → round_passes R E b h (round_of values w) ≡ true
    passing zero tested = refl
    passing (suc b) tested = ap (λ t. R.passes t (suc b) w) (sym absorbed) ∙ tested (omega arith)

  -- a round that was sent
  pub is_sent : (R' : Rules) (n : ℕ) (h₂ h₃ : List Event) (x : ℕ) → (0 < bits → IsFirstWitness R h₁ bits w) → (bits ≡ 0 → w ≡ 0) → h₂ ≡ h₁ ++ witness_events bits w → R' ≡ R →
      E.degree ≡ n → x ≡ extension_draw R' E h₂ → h₃ ≡ h₂ ++ replicate n Draw → IsSent (channel R E size bits) h (round_of values w) x h₃
  is_sent R' n h₂ h₃ x first none tested same degree is drawn =
      record { witness = round_first first none; drawn = round_drawn R' h₂ x tested same is; history = round_grown n h₂ h₃ tested degree drawn }

  -- a round that was taken
  pub is_taken : (R' : Rules) (n : ℕ) (h₂ h₃ : List Event) (x : ℕ) → (0 < bits → R.passes h₁ bits w ≡ true) → h₂ ≡ h₁ ++ witness_events bits w → R' ≡ R →
      E.degree ≡ n → x ≡ extension_draw R' E h₂ → h₃ ≡ h₂ ++ replicate n Draw → IsTaken (channel R E size bits) h (round_of values w) x h₃
  is_taken R' n h₂ h₃ x passes tested same degree is drawn =
      record { passes = round_passing passes; drawn = round_drawn R' h₂ x tested same is; history = round_grown n h₂ h₃ tested degree drawn }

  -- a witness that fails
  pub fails_test : (h₂ : List Event) → 0 < bits → R.passes h₁ bits w ≡ false → h₂ ≡ h₁ ++ witness_events bits w → WitnessFails (channel R E size bits) h (round_of values w) h₂
  fails_test h₂ positive failed tested = record { fails = passes_tested positive ∙ failed; history = round_before h₂ tested }

-- a witness that is not taken
pub untaken : {W X : Type 0} (base : W → ℕ) (number : X → ℕ) (R : Rules) (E : Extension) (size bits : ℕ) (h h₁ h₂ : List Event) (values : List ℕ) (came : Option W) (e : WitnessError) (result : Result X WitnessError) →
    h₁ ≡ h ++ sent E values → result ≡ Err e → LeavesTested {X = Unit {0}} base R bits came h₁ (Err e) h₂ →
    LeavesTaken number (channel R E size bits) h (round_of values (option_map_or base came 0)) came result h₂
untaken base number R E size bits h h₁ h₂ values came Missing result absorbed is left = rw is (left.1, left.2, left.0 ∙ absorbed)
untaken base number R E size bits h h₁ h₂ values came Invalid result absorbed is left =
    rw is (left.2, fails_test R E size bits h h₁ values (option_map_or base came 0) absorbed h₂ left.1 left.3 left.0)

-- ---- the seed

-- no rounds have no seed
pub seed_none : (degree : ℕ) (basis : Basis) (bits : ℕ) (n : ℕ) {h : List Event} → n ≡ 0 → h ≡ h ++ words (quadratic_seed degree basis bits n)
unfolding quadratic_seed
seed_none degree basis bits zero none = simp append-nil
seed_none degree basis bits (suc n) none = absurd (omega (arith, none))

-- rounds have the separator's
pub seed_some : (degree : ℕ) (basis : Basis) (bits n : ℕ) → 0 < n → seed_words (quadratic_separator degree basis bits n) ≡ quadratic_seed degree basis bits n
unfolding quadratic_seed
seed_some degree basis bits zero positive = absurd (omega (arith, positive))
seed_some degree basis bits (suc n) positive = refl
