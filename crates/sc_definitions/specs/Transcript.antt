-- The transcript of a list of rounds of any protocol, and the challenges that a challenger gives along it.
use Rattle.std.specs.Prelude.{ℕ, zero, suc, ◌≡◌, List, [], ◌∷◌, ◌++◌, map, replicate, flat_map}
use Rattle.sc_definitions.specs.declared.events.Event.TheVariants.{Word, Draw, Test}
use Rattle.sc_definitions.specs.declared.events.Event.{Event}
use Rattle.sc_definitions.specs.Events.{Rules, Extension, words, extension_draw, IsFirstWitness}

-- a round as it is sent: its values, and its witness, 0 where there is none
pub record Round : Type 0 where
  pub values : List ℕ
  pub witness : ℕ

-- the round of these values and this witness
abbrev pub round_of : List ℕ → ℕ → Round
round_of values witness = record { values = values; witness = witness }

-- the messages of rounds
abbrev pub messages_of : List Round → List (List ℕ)
messages_of rounds = map (λ r. r.values) rounds

-- the words of values: the parts of each, in order
unfoldable pub sent : Extension → List ℕ → List Event
sent E values = words (flat_map E.parts values)

-- a positive difficulty's witness and its test
abbrev pub witness_events : ℕ → ℕ → List Event
witness_events zero w = []
witness_events (suc b) w = Word w ∷ Test (suc b) ∷ []

-- what a round appends before its challenge
unfoldable pub before_draw : Extension → ℕ → Round → List Event
before_draw E bits r = sent E r.values ++ witness_events bits r.witness

-- what a round appends
unfoldable pub round_events : Extension → ℕ → Round → List Event
round_events E bits r = before_draw E bits r ++ replicate E.degree Draw

-- what rounds append, after the seed
abbrev pub rounds_events : Extension → ℕ → List Round → List Event
rounds_events E bits rounds = flat_map (round_events E bits) rounds

-- what a list of quadratic rounds appends: nothing for none, else the seed's words and the rounds
abbrev pub transcript : List ℕ → Extension → ℕ → List Round → List Event
transcript seed E bits [] = []
transcript seed E bits (r ∷ rounds) = words seed ++ rounds_events E bits (r ∷ rounds)

-- the challenge of a round that is played at h
unfoldable pub challenge : Rules → Extension → ℕ → List Event → Round → ℕ
challenge R E bits h r = extension_draw R E (h ++ before_draw E bits r)

-- the challenges of rounds that are played from h on
abbrev pub challenges : Rules → Extension → ℕ → List Event → List Round → List ℕ
challenges R E bits h [] = []
challenges R E bits h (r ∷ rounds) = challenge R E bits h r ∷ challenges R E bits (h ++ round_events E bits r) rounds

-- the round's witness is the first that passes after its values, or 0 where there is no difficulty
unfoldable pub HasFirstWitness : Rules → Extension → ℕ → List Event → Round → Type 0
HasFirstWitness R E zero h r = r.witness ≡ 0
HasFirstWitness R E (suc b) h r = IsFirstWitness R (h ++ sent E r.values) (suc b) r.witness

-- The rounds that an honest prover sends where there is no difficulty: played from h on, after the challenges rs
-- and with n variables left, each sends what `honest` gives for the challenges before it and the number of
-- variables after it.
abbrev pub built_rounds : (List ℕ → ℕ → List ℕ) → Rules → Extension → List Event → List ℕ → ℕ → List Round
built_rounds honest R E h rs zero = []
built_rounds honest R E h rs (suc n) =
    round_of (honest rs n) 0
    ∷ built_rounds honest R E (h ++ round_events E 0 (round_of (honest rs n) 0)) (rs ++ challenge R E 0 h (round_of (honest rs n) 0) ∷ []) n
