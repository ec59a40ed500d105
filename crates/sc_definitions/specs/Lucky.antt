-- Lucky challenges: where a false claim turned true, and what certifies it.
use Rattle.std.specs.Prelude.{◌≡◌, ℕ, zero, suc, ◌+◌, ◌≤◌, ◌==◌, List, [], ◌∷◌, ◌++◌, length, map, if◌then◌else◌, Option, Some, None, option_map}
use Rattle.std.specs.List.{slice_get}
use Rattle.sc_definitions.specs.Ring.{Ops, ◌-⟨◌⟩◌}
use Rattle.sc_definitions.specs.Rounds.{round_polynomial, sent_polynomial, next_claim}
use Rattle.sc_definitions.specs.Polynomials.{poly_at, poly_minus, AllZero}
use Rattle.sc_definitions.specs.Roots.{root_count, IsLastPlace}
use Rattle.sc_definitions.specs.Interpolation.{sent_through, next_through}
use Rattle.sc_definitions.specs.Products.{product_claim, product_round}
use Rattle.sc_definitions.specs.Statements.{Statement, true_value}
use Rattle.sc_definitions.specs.Problem.{Problem, claim_of}
use Rattle.sc_definitions.specs.TwoTables.{TwoTables, tables_in, true_claim_on}

-- What shows that r was lucky: a polynomial, by its coefficients, that is not zero and vanishes at r, and the number of elements at which it vanishes,
-- which is at most its degree.
pub record IsCertificate (o : Ops) (r : ℕ) (cs : List ℕ) (roots : ℕ) : Type 0 where
  pub not_zero : AllZero o cs → ⊥
  pub vanishes : poly_at o cs r ≡ 0
  pub count : roots ≡ root_count o cs
  pub degree : ℕ
  pub last : IsLastPlace o cs degree
  pub few : roots ≤ degree

-- ---- the batching challenge

-- a list after so many zeros
abbrev pub after_zeros : ℕ → List ℕ → List ℕ
after_zeros zero xs = xs
after_zeros (suc n) xs = 0 ∷ after_zeros n xs

-- how much more than its true value a statement claims
unfoldable pub excess : Ops → ℕ → (ℕ → ℕ) → Statement → ℕ
excess o n f s = s.claimed -⟨ o ⟩ true_value o n f s.kind

-- the polynomial that the batching challenge is put into: each statement's excess at its power
unfoldable pub batch_polynomial : Ops → Problem → List ℕ
batch_polynomial o p = after_zeros p.initial (map (excess o p.variables p.table) p.statements)

-- ---- the challenges of rounds

-- the true claim of a problem after the challenges rs, with m variables left
abbrev pub true_claim_of : Ops → Problem → List ℕ → ℕ → ℕ
true_claim_of o p = true_claim_on o (tables_in o p)

-- what a message sends under a claim, after the challenges rs and with m variables after the round's, less the true polynomial
unfoldable pub round_excess : Ops → TwoTables → ℕ → List ℕ → List ℕ → ℕ → List ℕ
round_excess o t claim message rs m =
    poly_minus o (sent_polynomial t.basis o claim message) (round_polynomial t.basis t.order o t.table t.weights rs m)

-- what values send under a claim of the product of tables, after the challenges rs and with m variables after the round's, less the true polynomial
unfoldable pub product_excess : Ops → List (ℕ → ℕ) → ℕ → List ℕ → List ℕ → ℕ → List ℕ
product_excess o fs claim values rs m = poly_minus o (sent_through o claim values) (product_round o fs rs m)

-- How the claims of rounds go: the claim after a message and its challenge, the true one after challenges with so many variables left, and what a
-- message sends under a claim less the true polynomial.
pub record Course : Type 0 where
  pub next : ℕ → List ℕ → ℕ → ℕ
  pub true_after : List ℕ → ℕ → ℕ
  pub excess : ℕ → List ℕ → List ℕ → ℕ → List ℕ

-- those on two tables, those of a problem, and those of the product of tables
abbrev pub course_on : Ops → TwoTables → Course
course_on o t = record { next = next_claim t.basis o; true_after = true_claim_on o t; excess = round_excess o t }

abbrev pub course_of : Ops → Problem → Course
course_of o p = course_on o (tables_in o p)

abbrev pub product_course : Ops → List (ℕ → ℕ) → Course
product_course o fs = record { next = next_through o; true_after = product_claim o fs; excess = product_excess o fs }

-- a round, by its number, and what it sends less the true polynomial
pub record Turn : Type 0 where
  pub round : ℕ
  pub polynomial : List ℕ

-- The first round, of messages that are numbered from i on and played after the challenges `before`, after which the claim is the true one.
unfoldable pub first_turn : Course → ℕ → ℕ → List (List ℕ) → List ℕ → List ℕ → Option Turn
first_turn k i claim [] before rs = None
first_turn k i claim (message ∷ messages) before [] = None
first_turn k i claim (message ∷ messages) before (r ∷ rs) =
    if k.next claim message r == k.true_after (before ++ r ∷ []) (length messages)
    then Some (record { round = i; polynomial = k.excess claim message before (length messages) })
    else first_turn k (suc i) (k.next claim message r) messages (before ++ r ∷ []) rs

-- Round t is one of those, at this challenge, and what it sends less the true polynomial certifies that the challenge was lucky.
pub record IsTurn (o : Ops) (width i : ℕ) (rs : List ℕ) (t : Turn) : Type 0 where
  pub place : ℕ
  pub round : t.round ≡ i + place
  pub challenge : ℕ
  pub drawn : slice_get rs place ≡ Some challenge
  pub certificate : IsCertificate o challenge t.polynomial (root_count o t.polynomial)
  pub coefficients : length t.polynomial ≡ width

-- ---- which challenge let a false statement through

-- the batching challenge, or the challenge of a round: with the polynomial that certifies it, and the number of its roots
pub data LuckyChallenge : Type 0 where
  in_batch : (polynomial : List ℕ) → (roots : ℕ) → LuckyChallenge
  in_round : (round : ℕ) → (polynomial : List ℕ) → (roots : ℕ) → LuckyChallenge

-- a round's
abbrev pub luck_in : Ops → Turn → LuckyChallenge
luck_in o t = in_round t.round t.polynomial (root_count o t.polynomial)

-- The first one in the transcript's order: the batching challenge where the batched claim is the true one, or else that of the first turn.
unfoldable pub luck_of : Ops → Problem → List (List ℕ) → List ℕ → Option LuckyChallenge
luck_of o p messages rs =
    if claim_of o p == true_claim_of o p [] p.variables
    then Some (in_batch (batch_polynomial o p) (root_count o (batch_polynomial o p)))
    else option_map (luck_in o) (first_turn (course_of o p) 0 (claim_of o p) messages [] rs)

-- a round's luck: its challenge is there, and the polynomial, of three coefficients, certifies it
pub record IsRoundLuck (o : Ops) (rs : List ℕ) (round : ℕ) (polynomial : List ℕ) (roots : ℕ) : Type 0 where
  pub challenge : ℕ
  pub drawn : slice_get rs round ≡ Some challenge
  pub certificate : IsCertificate o challenge polynomial roots
  pub three : length polynomial ≡ 3

-- It is certified: by a polynomial of one coefficient for each statement after as many as the initial power says, or by that of a round.
abbrev pub IsCertified : Ops → Problem → List ℕ → LuckyChallenge → Type 0
IsCertified o p rs (in_batch polynomial roots) = IsCertificate o p.batching polynomial roots × (length polynomial ≡ p.initial + length p.statements)
IsCertified o p rs (in_round round polynomial roots) = IsRoundLuck o rs round polynomial roots
