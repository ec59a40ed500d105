-- The number of roots of a polynomial that is not zero is at most the place of its last coefficient that is not.
use Rattle.std.proofs.Common.{◌≡◌, ◌⊎◌, inl, inr, ℕ, zero, suc, ◌+◌, ◌<◌, ◌≤◌, ◌==◌, Bool, List, [], ◌∷◌, length, take, drop, slice_index, if◌then◌else◌, sym, ◌∙◌, ap, refl, subst, arith, ⊎_elim, eq-eqb, ne_eqb}
use Rattle.std.proofs.lemmas.Bool.{cases_eq, cases_lt}
use Rattle.sc_definitions.specs.Ring.{Ops, IsRing, IsField, element, plus, times}
use Rattle.sc_definitions.specs.Polynomials.{poly_at, AllZero, IsNoneOf, AreRoots}
use Rattle.sc_definitions.specs.Roots.{count_below, root_count, IsLastPlace}
use Rattle.sc_definitions.proofs.RingLaws.{element-zero, times-zero, plus-zero}
use Rattle.sc_definitions.proofs.RootLaws.{zero-from_roots}

-- there is none below zero
pub count-none : (test : ℕ → Bool) → 0 ≡ count_below 0 test
unfolding count_below
count-none test = refl

module _ (o : Ops) (cs : List ℕ) where
  -- how many roots are below n
  pub roots_below : ℕ → ℕ
  roots_below n = count_below n (λ x. poly_at o cs x == 0)

  -- the roots below n
  roots : ℕ → List ℕ
  roots zero = []
  roots (suc n) = if poly_at o cs n == 0 then n ∷ roots n else roots n

  roots-yes : (n : ℕ) → poly_at o cs n ≡ 0 → roots (suc n) ≡ n ∷ roots n
  unfolding roots
  roots-yes n e = ap (λ t. if t then n ∷ roots n else roots n) (eq-eqb (poly_at o cs n) 0 e)

  roots-no : (n : ℕ) → (poly_at o cs n ≡ 0 → ⊥) → roots (suc n) ≡ roots n
  unfolding roots
  roots-no n e = ap (λ t. if t then n ∷ roots n else roots n) (ne_eqb (poly_at o cs n) 0 e)

  below-yes : (n : ℕ) → poly_at o cs n ≡ 0 → roots_below (suc n) ≡ 1 + roots_below n
  unfolding roots_below count_below
  below-yes n e = ap (λ t. (if t then 1 else 0) + roots_below n) (eq-eqb (poly_at o cs n) 0 e)

  below-no : (n : ℕ) → (poly_at o cs n ≡ 0 → ⊥) → roots_below (suc n) ≡ 0 + roots_below n
  unfolding roots_below count_below
  below-no n e = ap (λ t. (if t then 1 else 0) + roots_below n) (ne_eqb (poly_at o cs n) 0 e)

  length-roots : (n : ℕ) → length (roots n) ≡ roots_below n
  unfolding roots roots_below count_below
  length-roots zero = refl
  length-roots (suc n) = ⊎_elim
      (λ yes. let more : suc (roots_below n) ≡ 1 + roots_below n = omega arith in
      ap length (roots-yes n yes) ∙ ap suc (length-roots n) ∙ more ∙ sym (below-yes n yes))
      (λ no. let same : roots_below n ≡ 0 + roots_below n = omega arith in
      ap length (roots-no n no) ∙ length-roots n ∙ same ∙ sym (below-no n no))
      (cases_eq (poly_at o cs n) 0)

  others : (r n : ℕ) → n ≤ r → IsNoneOf r (roots n)
  unfolding roots
  others r zero h = tt
  others r (suc n) h = ⊎_elim
      (λ yes. subst (λ l. IsNoneOf r l) (sym (roots-yes n yes)) (λ e. omega arith, others r n (omega arith)))
      (λ no. subst (λ l. IsNoneOf r l) (sym (roots-no n no)) (others r n (omega arith)))
      (cases_eq (poly_at o cs n) 0)

  are_roots : (n : ℕ) → n ≤ o.size → AreRoots o cs (roots n)
  unfolding roots
  are_roots zero h = tt
  are_roots (suc n) h = ⊎_elim
      (λ yes. subst (λ l. AreRoots o cs l) (sym (roots-yes n yes)) (h, yes, others n n (omega arith), are_roots n (omega arith)))
      (λ no. subst (λ l. AreRoots o cs l) (sym (roots-no n no)) (are_roots n (omega arith)))
      (cases_eq (poly_at o cs n) 0)

module _ (o : Ops) (ring : IsRing o) where
  -- coefficients that are zero at the end say nothing
  pub poly_at-zero : (cs : List ℕ) (x : ℕ) → AllZero o cs → poly_at o cs x ≡ 0
  unfolding poly_at
  poly_at-zero [] x h = refl
  poly_at-zero (c ∷ cs) x h =
      ap (λ p. plus o c (times o x p)) (poly_at-zero cs x h.1)
      ∙ ap (plus o c) (times-zero o ring x)
      ∙ plus-zero o ring c ∙ h.0

  poly_at-take : (k : ℕ) (cs : List ℕ) (x : ℕ) → AllZero o (drop k cs) → poly_at o (take k cs) x ≡ poly_at o cs x
  unfolding poly_at
  poly_at-take zero cs x h = sym (poly_at-zero cs x h)
  poly_at-take (suc k) [] x h = refl
  poly_at-take (suc k) (c ∷ cs) x h = ap (λ p. plus o c (times o x p)) (poly_at-take k cs x h)

  zero-from_take : (k : ℕ) (cs : List ℕ) → AllZero o (take k cs) → AllZero o (drop k cs) → AllZero o cs
  zero-from_take zero cs h g = g
  zero-from_take (suc k) [] h g = tt
  zero-from_take (suc k) (c ∷ cs) h g = (h.0, zero-from_take k cs h.1 g)

  length-take_most : (k : ℕ) (cs : List ℕ) → length (take k cs) ≤ k
  length-take_most zero cs = omega arith
  length-take_most (suc k) [] = omega arith
  length-take_most (suc k) (c ∷ cs) = let h : length (take k cs) ≤ k = length-take_most k cs in omega arith

  roots-take : (k : ℕ) (cs rs : List ℕ) → AllZero o (drop k cs) → AreRoots o cs rs → AreRoots o (take k cs) rs
  roots-take k cs [] h roots = tt
  roots-take k cs (r ∷ rs) h roots = (roots.0, poly_at-take k cs r h ∙ roots.1, roots.2, roots-take k cs rs h roots.3)

-- ---- the degree

all_or_last : (o : Ops) (cs : List ℕ) → AllZero o cs ⊎ ((p : ℕ) × IsLastPlace o cs p)
all_or_last o [] = inl tt
all_or_last o (c ∷ cs) = ⊎_elim
    (λ zeros. ⊎_elim
    (λ none. inl (none, zeros))
    (λ some. inr (0, record { there = some; none_after = zeros }))
    (cases_eq (element o c) 0))
    (λ found. inr (suc found.0, record { there = found.1.there; none_after = found.1.none_after }))
    (all_or_last o cs)

-- a polynomial that is not zero has one
pub last_place : (o : Ops) (cs : List ℕ) → (AllZero o cs → ⊥) → (p : ℕ) × IsLastPlace o cs p
last_place o cs some = ⊎_elim (λ zeros. absurd (some zeros)) (λ found. found) (all_or_last o cs)

module _ (o : Ops) (field : IsField o) where
  -- with k listed roots or more and no coefficient past the first k, a polynomial is zero
  zero-from_listed : (k : ℕ) (cs rs : List ℕ) → AllZero o (drop k cs) → AreRoots o cs rs → k ≤ length rs → AllZero o cs
  zero-from_listed k cs rs h listed many =
      let enough : length (take k cs) ≤ length rs = omega (arith, length-take_most o field.ring k cs, many) in
      zero-from_take o field.ring k cs
      (zero-from_roots o field rs (take k cs) enough (roots-take o field.ring k cs rs h listed)) h

  -- the same of all elements that are roots
  pub zero-from_count : (k : ℕ) (cs : List ℕ) → AllZero o (drop k cs) → k ≤ root_count o cs → AllZero o cs
  unfolding root_count roots_below
  zero-from_count k cs h many =
      zero-from_listed k cs (roots o cs o.size) h (are_roots o cs o.size (omega arith)) (omega (arith, many, length-roots o cs o.size))

  place-not_zero : (cs : List ℕ) (p : ℕ) → AllZero o cs → element o (slice_index cs p) ≡ 0
  place-not_zero [] p h = element-zero o field.ring
  place-not_zero (c ∷ cs) zero h = h.0
  place-not_zero (c ∷ cs) (suc p) h = place-not_zero cs p h.1

  pub root_count-bound : (cs : List ℕ) (p : ℕ) → IsLastPlace o cs p → root_count o cs ≤ p
  root_count-bound cs p last = ⊎_elim
      (λ small. omega arith)
      (λ many. absurd (last.there (place-not_zero cs p (zero-from_count (suc p) cs last.none_after many))))
      (cases_lt (root_count o cs) (suc p))

  -- different roots are no more than the degree
  pub roots_are_few : (cs rs : List ℕ) (p : ℕ) → IsLastPlace o cs p → AreRoots o cs rs → length rs ≤ p
  roots_are_few cs rs p last listed = ⊎_elim
      (λ small. omega arith)
      (λ many. absurd (last.there (place-not_zero cs p (zero-from_listed (suc p) cs rs last.none_after listed many))))
      (cases_lt (length rs) (suc p))

  -- every root is an element for a zero polynomial; one that is not zero has fewer roots than coefficients
  pub root_count-few : (cs : List ℕ) → (AllZero o cs → ⊥) → root_count o cs < length cs
  root_count-few cs not_zero = ⊎_elim
      (λ small. small)
      (λ many. absurd (not_zero (zero-from_count (length cs) cs (nothing_left cs) many)))
      (cases_lt (root_count o cs) (length cs)) where
        nothing_left : (ds : List ℕ) → AllZero o (drop (length ds) ds)
        nothing_left [] = tt
        nothing_left (d ∷ ds) = nothing_left ds
