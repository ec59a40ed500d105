-- Tests that find nothing, how many rounds and witnesses came, and the witnesses of the rounds that came.
use Rattle.std.proofs.Common.{◌≡◌, ℕ, zero, suc, Bool, true, false, List, [], ◌∷◌, length, map, if◌then◌else◌, Some, None, refl, ap, ◌∙◌, arith, eq-eqb, eqb-true, ne_eqb}
use Rattle.std.specs.Prelude.{◌==◌}
use Rattle.sc_definitions.specs.Transcript.{Round}
use Rattle.sc_definitions.specs.Replays.{given_rounds}
use Rattle.sc_definitions.specs.Channels.{witnesses_of}

-- ---- tests

-- one that finds nothing was passed
pub none-passed : {E : Type 0} (t : Bool) (e : E) → (if t then None else Some e) ≡ None → t ≡ true
none-passed true e none = refl
none-passed false e none = cc

pub none-same : {E : Type 0} (a n : ℕ) (e : E) → (if a == n then None else Some e) ≡ None → a ≡ n
none-same a n e none = eqb-true a n (none-passed (a == n) e none)

-- ---- so many of two kinds

module _ {E : Type 0} (a n b k : ℕ) (few others : E) where
  pub both-none : a ≡ n → b ≡ k → (if a == n then (if b == k then None else Some few) else Some others) ≡ None
  both-none same too =
      ap (λ t. if t then (if b == k then None else Some few) else Some others) (eq-eqb a n same) ∙ ap (λ t. if t then None else Some few) (eq-eqb b k too)

  pub both-same : (if a == n then (if b == k then None else Some few) else Some others) ≡ None → (a ≡ n) × (b ≡ k)
  both-same = by (a == n) refl where
    by : (t : Bool) → (a == n) ≡ t → (if t then (if b == k then None else Some few) else Some others) ≡ None → (a ≡ n) × (b ≡ k)
    by true is none = (eqb-true a n is, none-same b k few none)
    by false is none = cc

-- ---- witnesses

all_witnesses : (ms : List (List ℕ)) (ws : List ℕ) → length ws ≡ length ms → map (λ (r : Round). r.witness) (given_rounds ms ws) ≡ ws
all_witnesses [] [] same = refl
all_witnesses [] (w ∷ ws) same = absurd (omega (arith, same))
all_witnesses (m ∷ ms) [] same = absurd (omega (arith, same))
all_witnesses (m ∷ ms) (w ∷ ws) same = ap (λ t. w ∷ t) (all_witnesses ms ws (omega (arith, same)))

-- where as many came as have to, those of the rounds are those that came
pub witnesses-given : (bits : ℕ) (ms : List (List ℕ)) (ws : List ℕ) → length ws ≡ (if bits == 0 then 0 else length ms) → witnesses_of bits (given_rounds ms ws) ≡ ws
witnesses-given zero ms [] count = refl
witnesses-given zero ms (w ∷ ws) count = absurd (omega (arith, count))
witnesses-given (suc bits) ms ws count =
    all_witnesses ms ws (count ∙ ap (λ b. if b then 0 else length ms) (ne_eqb (suc bits) 0 (λ e. absurd (omega (arith, e)))))
