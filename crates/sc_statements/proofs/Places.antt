-- The statement at a place of a list.
use Rattle.std.proofs.Common.{◌≡◌, ℕ, zero, suc, ◌+◌, ◌<◌, List, [], ◌∷◌, ◌++◌, length, map, take, drop, slice_index, sym, ◌∙◌, ap, refl, arith}
use Rattle.sc_definitions.specs.Ring.{Ops}
use Rattle.sc_definitions.specs.Tables.{Basis, value_in}
use Rattle.sc_definitions.specs.Statements.{Statement, weight_of}
use Rattle.sc_statements.specs.Lists.{IsAt}
use Rattle.sc_statements.specs.Weights.{weight_values, weights_from}

pub at-place : (ss : List Statement) (i : ℕ) → i < length ss → (s : Statement) × IsAt ss i s
at-place [] i low = absurd (omega (arith, low))
at-place (t ∷ ss) zero low = (t, refl)
at-place (t ∷ ss) (suc i) low = at-place ss i (omega (arith, low))

taken : (ss : List Statement) (i : ℕ) (s : Statement) → IsAt ss i s → take (suc i) ss ≡ take i ss ++ s ∷ []
taken [] i s at = absurd at
taken (t ∷ ss) zero s at = ap (λ u. u ∷ []) at
taken (t ∷ ss) (suc i) s at = ap (λ l. t ∷ l) (taken ss i s at)

left : (ss : List Statement) (i : ℕ) (s : Statement) → IsAt ss i s → drop i ss ≡ s ∷ drop (suc i) ss
left [] i s at = absurd at
left (t ∷ ss) zero s at = ap (λ u. u ∷ ss) at
left (t ∷ ss) (suc i) s at = left ss i s at

-- the statements before the next place, and after this one
pub taken-at : (ss : List Statement) (i : ℕ) (s : Statement) → IsAt ss i s → take (i + 1) ss ≡ take i ss ++ s ∷ []
taken-at ss i s at = let e : i + 1 ≡ suc i = omega arith in ap (λ k. take k ss) e ∙ taken ss i s at

pub left-at : (ss : List Statement) (i : ℕ) (s : Statement) → IsAt ss i s → drop i ss ≡ s ∷ drop (i + 1) ss
left-at ss i s at = let e : suc i ≡ i + 1 = omega arith in left ss i s at ∙ ap (λ k. s ∷ drop k ss) e

-- what is read of it
pub read-at : (f : Statement → ℕ) (ss : List Statement) (i : ℕ) (s : Statement) → IsAt ss i s → slice_index (map f ss) i ≡ f s
read-at f [] i s at = absurd at
read-at f (t ∷ ss) zero s at = ap f at
read-at f (t ∷ ss) (suc i) s at = read-at f ss i s at

pub place-inside : (ss : List Statement) (i : ℕ) (s : Statement) → IsAt ss i s → i < length ss
place-inside [] i s at = absurd at
place-inside (t ∷ ss) zero s at = omega arith
place-inside (t ∷ ss) (suc i) s at = omega (arith, place-inside ss i s at)

-- the weights from a place on
pub weights-first : (basis : Basis) (o : Ops) (row : List ℕ) (ss : List Statement) (i : ℕ) (weight : ℕ) → i < length ss → weight ≡ slice_index (weight_values basis o row ss) i → weights_from basis o row ss i ≡ weight ∷ weights_from basis o row ss (i + 1)
weights-first basis o row ss i weight low is =
    let there = at-place ss i low in
    let one : Statement → ℕ = λ s. value_in basis o (weight_of o s.kind) row in
    ap (map one) (left-at ss i there.0 there.1) ∙ ap (λ w. w ∷ map one (drop (i + 1) ss)) (sym (is ∙ read-at one ss i there.0 there.1))

-- what is left after the first is shorter
pub shorter-left : {B : Type 0} (all rest : List B) (b : B) → all ≡ b ∷ rest → length rest < length all
shorter-left all rest b first = omega (arith, ap length first)
