-- Strategies against the verifier, and how many lists of challenges they accept.
use Rattle.std.specs.Prelude.{◌≡◌, ◌≢◌, ℕ, zero, suc, ◌+◌, ◌*◌, ◌-◌, ◌/◌, ◌%◌, ◌^◌, ◌<◌, ◌≤◌, ◌==◌, Bool, List, [], ◌∷◌, ◌++◌, All, length, bytes_eq, if◌then◌else◌}
use Rattle.sc_definitions.specs.Ring.{Ops, element}
use Rattle.sc_definitions.specs.Tables.{IsOffered}
use Rattle.sc_definitions.specs.Rounds.{next_claim, claim_along}
use Rattle.sc_definitions.specs.Roots.{count_below}
use Rattle.sc_definitions.specs.TwoTables.{TwoTables, true_claim_on, end_of}

-- The two values that a strategy holds for the challenges drawn so far.
pub record StrategyEntry : Type 0 where
  pub drawn : List ℕ
  pub first : ℕ
  pub second : ℕ

-- what a strategy sends where these challenges were drawn: the values that it holds for them first, or else zeros
unfoldable pub strategy_message : List StrategyEntry → List ℕ → List ℕ
strategy_message [] rs = 0 ∷ 0 ∷ []
strategy_message (h ∷ hs) rs = if bytes_eq h.drawn rs then h.first ∷ h.second ∷ [] else strategy_message hs rs

-- what it sends in all rounds, against further challenges
abbrev pub messages_against : List StrategyEntry → List ℕ → List ℕ → List (List ℕ)
messages_against s before [] = []
messages_against s before (r ∷ rs) = strategy_message s before ∷ messages_against s (before ++ r ∷ []) rs

-- the claim that it makes of one at a challenge, after those drawn so far
abbrev pub next_against : Ops → TwoTables → List StrategyEntry → List ℕ → ℕ → ℕ → ℕ
next_against o t s rs claim x = next_claim t.basis o claim (strategy_message s rs) x

-- Whether it accepts these challenges from a claim on: the claims that it makes along them end in the product of both tables' values there.
unfoldable pub accepts : Ops → TwoTables → List StrategyEntry → ℕ → List ℕ → Bool
accepts o t s claim rs = claim_along (next_claim t.basis o) claim (messages_against s [] rs) rs == end_of o t rs

-- the sum of f k for k below n
unfoldable pub sum_of_counts : ℕ → (ℕ → ℕ) → ℕ
sum_of_counts zero f = 0
sum_of_counts (suc n) f = sum_of_counts n f + f n

-- Its count after the challenges rs and at a claim, with m challenges to come: 1 or 0 at the end, and before it the sum over all elements.
unfoldable pub accepted : Ops → TwoTables → List StrategyEntry → ℕ → List ℕ → ℕ → ℕ
accepted o t s zero rs claim = if claim == end_of o t rs then 1 else 0
accepted o t s (suc m) rs claim = sum_of_counts o.size (λ x. accepted o t s m (rs ++ x ∷ []) (next_against o t s rs claim x))

-- list number k of m challenges below q, of which the first is the highest digit of k
unfoldable pub challenges_at : ℕ → ℕ → ℕ → List ℕ
challenges_at q zero k = []
challenges_at q (suc m) k = k / q ^ m ∷ challenges_at q m (k % q ^ m)

-- From a false claim on at most 2 n q^(n - 1) lists of n challenges are accepted, whatever the strategy.
abbrev pub FewAccepted : Ops → Type 0
FewAccepted o = (t : TwoTables) (n : ℕ) (s : List StrategyEntry) (claim : ℕ) → IsOffered t.basis t.order → 1 ≤ n →
    element o claim ≢ true_claim_on o t [] n → accepted o t s n [] claim ≤ 2 * n * o.size ^ (n - 1)

-- The count at no challenge is that of the lists which are accepted, of the q^n lists that have numbers.
abbrev pub CountsLists : Ops → Type 0
CountsLists o = (t : TwoTables) (n : ℕ) (s : List StrategyEntry) (claim : ℕ) →
    accepted o t s n [] claim ≡ count_below (o.size ^ n) (λ k. accepts o t s claim (challenges_at o.size n k))

-- Each list of n numbers below q is the one with exactly one of these numbers.
pub record HasNumber (q n : ℕ) (rs : List ℕ) : Type 0 where
  pub number : ℕ
  pub low : number < q ^ n
  pub is : challenges_at q n number ≡ rs
  pub only : (k : ℕ) → k < q ^ n → challenges_at q n k ≡ rs → k ≡ number

abbrev pub ListsHaveNumbers : Ops → Type 0
ListsHaveNumbers o = (n : ℕ) (rs : List ℕ) → length rs ≡ n → All (λ r. r < o.size) rs → HasNumber o.size n rs
