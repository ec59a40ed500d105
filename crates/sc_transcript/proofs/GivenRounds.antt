-- The rounds that a proof gives, where they were played.
use Rattle.std.proofs.Common.{◌≡◌, ℕ, zero, suc, ◌++◌, List, [], ◌∷◌, length, refl, ap, sym, subst, ◌∙◌, if◌then◌else◌, ne_eqb, arith}
use Rattle.std.proofs.lemmas.List.{length-map}
use Rattle.sc_definitions.specs.declared.events.Event.{Event}
use Rattle.sc_definitions.specs.Transcript.{Round, round_of, messages_of, round_events, challenge, HasFirstWitness}
use Rattle.sc_definitions.specs.Channels.{Channel, IsBuilt}
use Rattle.sc_definitions.specs.Replays.{given_rounds}
use Rattle.sc_transcript.specs.Data.{witness_count, witnesses_of}

-- ---- the rounds of what was appended

-- at a positive difficulty each round has its witness
given_witnessed : (rounds : List Round) (bits : ℕ) → given_rounds (messages_of rounds) (witnesses_of (suc bits) rounds) ≡ rounds
given_witnessed [] bits = refl
given_witnessed (r ∷ rounds) bits = ap (λ t. r ∷ t) (given_witnessed rounds bits)

-- without a difficulty the witnesses are 0
given_plain : (honest : List ℕ → ℕ → List ℕ) (c : Channel) → c.bits ≡ 0 → (h : List Event) (rs : List ℕ) (n : ℕ) (rounds : List Round) →
    IsBuilt honest c h rs n rounds → given_rounds (messages_of rounds) [] ≡ rounds
unfolding HasFirstWitness
given_plain honest c none h rs n [] b = refl
given_plain honest c none h rs zero (r ∷ rounds) b = absurd b
given_plain honest c none h rs (suc n) (r ∷ rounds) b =
    let zeroed : HasFirstWitness c.rules c.extension 0 h r = subst (λ k. HasFirstWitness c.rules c.extension k h r) none b.1 in
    ap (λ w. round_of r.values w ∷ given_rounds (messages_of rounds) []) (sym zeroed)
    ∙ ap (λ t. r ∷ t) (given_plain honest c none (h ++ round_events c.extension c.bits r) (rs ++ challenge c.rules c.extension c.bits h r ∷ []) n rounds b.2)

given_at : (honest : List ℕ → ℕ → List ℕ) (c : Channel) (bits : ℕ) → c.bits ≡ bits → (h : List Event) (rs : List ℕ) (n : ℕ) (rounds : List Round) →
    IsBuilt honest c h rs n rounds → given_rounds (messages_of rounds) (witnesses_of bits rounds) ≡ rounds
given_at honest c zero is h rs n rounds b = given_plain honest c is h rs n rounds b
given_at honest c (suc bits) is h rs n rounds b = given_witnessed rounds bits

pub given_played : (honest : List ℕ → ℕ → List ℕ) (c : Channel) (h : List Event) (rs : List ℕ) (n : ℕ) (rounds : List Round) →
    IsBuilt honest c h rs n rounds → given_rounds (messages_of rounds) (witnesses_of c.bits rounds) ≡ rounds
given_played honest c h rs n rounds b = given_at honest c c.bits refl h rs n rounds b

-- ---- how many there are

pub count_witnesses : (bits : ℕ) (rounds : List Round) → length (witnesses_of bits rounds) ≡ witness_count bits (length rounds)
count_witnesses zero rounds = refl
count_witnesses (suc bits) rounds =
    length-map rounds (λ r. r.witness)
    ∙ sym (ap (λ b. if b then 0 else length rounds) (ne_eqb (suc bits) 0 (λ e. absurd (omega (arith, e)))))
