-- Rounds that are built one after the other.
use Rattle.std.proofs.Common.{◌≡◌, ℕ, zero, suc, ◌+◌, List, [], ◌∷◌, ◌++◌, length, refl, ap, sym, ◌∙◌, subst, append_assoc, arith}
use Rattle.std.proofs.lemmas.List.{append-nil}
use Rattle.sc_definitions.specs.Rounds.{claim_along}
use Rattle.sc_definitions.specs.declared.events.Event.{Event}
use Rattle.sc_definitions.specs.Events.{Rules, Extension}
use Rattle.sc_definitions.specs.Transcript.{Round, round_of, messages_of, round_events, rounds_events, challenge, challenges, HasFirstWitness, built_rounds}
use Rattle.sc_definitions.specs.Channels.{Channel, channel, IsBuilt}

pub challenges-append : (R : Rules) (E : Extension) (bits : ℕ) (h : List Event) (rs qs : List Round) →
    challenges R E bits h (rs ++ qs) ≡ challenges R E bits h rs ++ challenges R E bits (h ++ rounds_events E bits rs) qs
challenges-append R E bits h [] qs = rw append-nil
challenges-append R E bits h (r ∷ rs) qs =
    ap (λ t. challenge R E bits h r ∷ t) (challenges-append R E bits (h ++ round_events E bits r) rs qs ∙ rw (append_assoc h (round_events E bits r) (rounds_events E bits rs)))

pub length-challenges : (R : Rules) (E : Extension) (bits : ℕ) (h : List Event) (rs : List Round) → length (challenges R E bits h rs) ≡ length rs
length-challenges R E bits h [] = refl
length-challenges R E bits h (r ∷ rs) = ap suc (length-challenges R E bits (h ++ round_events E bits r) rs)

pub length-messages : (rs : List Round) → length (messages_of rs) ≡ length rs
length-messages [] = refl
length-messages (r ∷ rs) = ap suc (length-messages rs)

pub messages-append : (rs : List Round) (r : Round) → messages_of (rs ++ r ∷ []) ≡ messages_of rs ++ r.values ∷ []
messages-append [] r = refl
messages-append (q ∷ rs) r = ap (λ t. q.values ∷ t) (messages-append rs r)

pub claim_along-append : (next : ℕ → List ℕ → ℕ → ℕ) (c : ℕ) (ms : List (List ℕ)) (rs : List ℕ) (m : List ℕ) (r : ℕ) → length ms ≡ length rs →
    claim_along next c (ms ++ m ∷ []) (rs ++ r ∷ []) ≡ next (claim_along next c ms rs) m r
unfolding claim_along
claim_along-append next c [] [] m r e = refl
claim_along-append next c [] (q ∷ rs) m r e = absurd (omega (arith, e))
claim_along-append next c (k ∷ ms) [] m r e = absurd (omega (arith, e))
claim_along-append next c (k ∷ ms) (q ∷ rs) m r e = claim_along-append next (next c k q) ms rs m r (omega (arith, e))

-- one more built round
pub IsBuilt-append : (honest : List ℕ → ℕ → List ℕ) (c : Channel) (h : List Event) (rs : List ℕ) (n : ℕ) (rounds : List Round) (r : Round) (m : ℕ) →
    IsBuilt honest c h rs n rounds → n ≡ length rounds + suc m →
    r.values ≡ honest (rs ++ challenges c.rules c.extension c.bits h rounds) m →
    HasFirstWitness c.rules c.extension c.bits (h ++ rounds_events c.extension c.bits rounds) r →
    IsBuilt honest c h rs n (rounds ++ r ∷ [])
IsBuilt-append honest c h rs zero [] r m b e v w = absurd (omega (arith, e))
IsBuilt-append honest c h rs (suc n) [] r m b e v w =
    let same : m ≡ n = omega (arith, e) in
    (v ∙ ap (λ t. honest t m) (append-nil rs) ∙ ap (honest rs) same, subst (λ t. HasFirstWitness c.rules c.extension c.bits t r) (append-nil h) w, tt)
IsBuilt-append honest c h rs zero (q ∷ rounds) r m b e v w = b
IsBuilt-append honest c h rs (suc n) (q ∷ rounds) r m b e v w =
    let R = c.rules in
    let E = c.extension in
    let bits = c.bits in (
      b.0,
      b.1,
      IsBuilt-append honest c (h ++ round_events E bits q) (rs ++ challenge R E bits h q ∷ []) n rounds r m b.2 (omega (arith, e))
          (v ∙ ap (λ t. honest t m) (sym (append_assoc rs (challenge R E bits h q ∷ []) (challenges R E bits (h ++ round_events E bits q) rounds))))
          (subst (λ t. HasFirstWitness R E bits t r) (sym (append_assoc h (round_events E bits q) (rounds_events E bits rounds))) w),
    )

-- built rounds without a difficulty are the ones that an honest prover sends
pub built_rounds-unique : (honest : List ℕ → ℕ → List ℕ) (R : Rules) (E : Extension) (size : ℕ) (h : List Event) (rs : List ℕ) (n : ℕ) (rounds : List Round) →
    length rounds ≡ n → IsBuilt honest (channel R E size 0) h rs n rounds → rounds ≡ built_rounds honest R E h rs n
unfolding HasFirstWitness
built_rounds-unique honest R E size h rs zero [] e b = refl
built_rounds-unique honest R E size h rs (suc n) [] e b = absurd (omega (arith, e))
built_rounds-unique honest R E size h rs zero (r ∷ rounds) e b = absurd b
built_rounds-unique honest R E size h rs (suc n) (r ∷ rounds) e b =
    let first : r ≡ round_of (honest rs n) 0 = ap (λ v. round_of v r.witness) b.0 ∙ ap (round_of (honest rs n)) b.1 in
    let later = built_rounds-unique honest R E size (h ++ round_events E 0 r) (rs ++ challenge R E 0 h r ∷ []) n rounds (omega (arith, e)) b.2 in
    ap (λ t. r ∷ t) later
    ∙ ap (λ q. q ∷ built_rounds honest R E (h ++ round_events E 0 q) (rs ++ challenge R E 0 h q ∷ []) n) first
