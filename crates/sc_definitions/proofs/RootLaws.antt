-- A polynomial with as many different roots as coefficients is zero.
use Rattle.std.proofs.Common.{◌≡◌, ◌≢◌, ℕ, suc, ◌%◌, ◌<◌, ◌≤◌, List, [], ◌∷◌, length, sym, ◌∙◌, ap, refl, arith}
use Rattle.sc_definitions.specs.Ring.{Ops, IsRing, IsField, element, plus, times, opposite, minus}
use Rattle.sc_definitions.specs.Polynomials.{poly_at, AllZero, IsNoneOf, AreRoots}
use Rattle.std.proofs.Math.Nat.{mod-lt, mod-eq_of_lt}
use Rattle.sc_definitions.proofs.RingLaws.{size_pos, element-small, element-zero, element-plus, element-times, plus-zero, plus_comm, times-zero, times-one}
use Rattle.sc_definitions.proofs.Identity.{atom, nought, ◌⊕◌, ◌⊗◌, ◌⊖◌, Agree, identity, same_element}

-- the quotient by X - r: the values at r of the tails
quotient : Ops → ℕ → List ℕ → List ℕ
quotient o r [] = []
quotient o r (c ∷ []) = []
quotient o r (c ∷ (d ∷ ds)) = poly_at o (d ∷ ds) r ∷ quotient o r (d ∷ ds)

module _ (o : Ops) (ring : IsRing o) where
  split_at : (r : ℕ) (cs : List ℕ) (x : ℕ) → poly_at o cs x ≡ plus o (poly_at o cs r) (times o (minus o x r) (poly_at o (quotient o r cs) x))
  unfolding poly_at quotient Agree
  split_at r [] x = identity o ring (x ∷ r ∷ []) nought (nought ⊕ (atom 0 ⊖ atom 1) ⊗ nought) tt tt refl
  split_at r (c ∷ []) x =
      let C = atom 0 in let X = atom 1 in let R = atom 2 in
      identity o ring (c ∷ x ∷ r ∷ []) (C ⊕ X ⊗ nought) ((C ⊕ R ⊗ nought) ⊕ (X ⊖ R) ⊗ nought) tt tt refl
  split_at r (c ∷ (d ∷ ds)) x =
      let q = poly_at o (quotient o r (d ∷ ds)) x in
      let p = poly_at o (d ∷ ds) r in
      let C = atom 0 in let X = atom 1 in let R = atom 2 in let P = atom 3 in let Q = atom 4 in
      ap (λ n. plus o c (times o x n)) (split_at r (d ∷ ds) x)
      ∙ identity o ring (c ∷ x ∷ r ∷ p ∷ q ∷ [])
      (C ⊕ X ⊗ (P ⊕ (X ⊖ R) ⊗ Q)) ((C ⊕ R ⊗ P) ⊕ (X ⊖ R) ⊗ (P ⊕ X ⊗ Q)) tt tt refl

  -- a polynomial is zero where its quotient and its rest are
  zero-from_quotient : (r : ℕ) (cs : List ℕ) → poly_at o cs r ≡ 0 → AllZero o (quotient o r cs) → AllZero o cs
  unfolding poly_at quotient Agree
  zero-from_quotient r [] e h = tt
  zero-from_quotient r (c ∷ []) e h =
      (same_element o ring (c ∷ r ∷ []) (atom 0) (atom 0 ⊕ atom 1 ⊗ nought) refl ∙ ap (element o) e ∙ element-zero o ring, tt)
  zero-from_quotient r (c ∷ (d ∷ ds)) e h =
      let p = poly_at o (d ∷ ds) r in
      let p_zero : p ≡ 0 = sym (element-plus o ring d (times o r (poly_at o ds r))) ∙ h.0 in (
        same_element o ring (c ∷ r ∷ []) (atom 0) (atom 0 ⊕ atom 1 ⊗ nought) refl
            ∙ ap (element o) (ap (λ n. plus o c (times o r n)) (sym p_zero) ∙ e) ∙ element-zero o ring,
        zero-from_quotient r (d ∷ ds) p_zero h.1,
      )

  pub element-poly_at : (cs : List ℕ) (x : ℕ) → element o (poly_at o cs x) ≡ poly_at o cs x
  unfolding poly_at
  element-poly_at [] x = element-zero o ring
  element-poly_at (c ∷ cs) x = element-plus o ring c (times o x (poly_at o cs x))

  length-quotient : (r c : ℕ) (cs : List ℕ) → length (quotient o r (c ∷ cs)) ≡ length cs
  unfolding quotient
  length-quotient r c [] = refl
  length-quotient r c (d ∷ ds) = ap suc (length-quotient r d ds)

  pub same-from_minus : (x y : ℕ) → minus o x y ≡ 0 → element o x ≡ element o y
  unfolding Agree
  same-from_minus x y e =
      let X = atom 0 in let Y = atom 1 in
      same_element o ring (x ∷ y ∷ []) X ((X ⊖ Y) ⊕ Y) refl
      ∙ ap (λ n. element o (plus o n y)) e
      ∙ same_element o ring (x ∷ y ∷ []) (nought ⊕ Y) Y refl

module _ (o : Ops) (field : IsField o) where
  pub inverse_of : (a : ℕ) → element o a ≢ 0 → (y : ℕ) × (y < o.size) × (times o a y ≡ 1)
  unfolding element times
  inverse_of a a_not =
      let found = field.inverse (a % o.size) (mod-lt a (size_pos o field.ring)) a_not in
      (found.0, found.1, ap (o.raw_times (a % o.size)) (mod-eq_of_lt found.1) ∙ found.2)

  pub no_zero_divisors : (a b : ℕ) → times o a b ≡ 0 → element o a ≢ 0 → element o b ≡ 0
  unfolding Agree
  no_zero_divisors a b e a_not =
      let found = inverse_of a a_not in
      let A = atom 0 in let B = atom 1 in let Y = atom 2 in
      sym (times-one o field.ring b)
      ∙ ap (times o b) (sym found.2)
      ∙ identity o field.ring (a ∷ b ∷ found.0 ∷ []) (B ⊗ (A ⊗ Y)) (Y ⊗ (A ⊗ B)) tt tt refl
      ∙ ap (times o found.0) e
      ∙ times-zero o field.ring found.0

  more_roots : (r : ℕ) (cs rs : List ℕ) → r < o.size → poly_at o cs r ≡ 0 → IsNoneOf r rs → AreRoots o cs rs → AreRoots o (quotient o r cs) rs
  more_roots r cs [] low e apart roots = tt
  more_roots r cs (s ∷ ss) low e apart roots =
      let ring = field.ring in
      let q = poly_at o (quotient o r cs) s in
      let none : times o (minus o s r) q ≡ 0 =
      sym (element-times o ring (minus o s r) q) ∙ sym (plus-zero o ring (times o (minus o s r) q)) ∙ plus_comm o ring (times o (minus o s r) q) 0
      ∙ ap (λ n. plus o n (times o (minus o s r) q)) (sym e) ∙ sym (split_at o ring r cs s) ∙ roots.1 in
      let not_same : element o (minus o s r) ≢ 0 =
      λ z. apart.0 (sym (element-small o ring s roots.0) ∙ same-from_minus o ring s r (sym (element-plus o ring s (opposite o r)) ∙ z) ∙ element-small o ring r low) in
      (roots.0, sym (element-poly_at o ring (quotient o r cs) s) ∙ no_zero_divisors (minus o s r) q none not_same, roots.2, more_roots r cs ss low e apart.1 roots.3)

  pub zero-from_roots : (rs cs : List ℕ) → length cs ≤ length rs → AreRoots o cs rs → AllZero o cs
  zero-from_roots rs [] h roots = tt
  zero-from_roots [] (c ∷ cs) h roots = absurd (omega arith)
  zero-from_roots (r ∷ rs) (c ∷ cs) h roots =
      let shorter : length (quotient o r (c ∷ cs)) ≤ length rs = omega (arith, length-quotient o field.ring r c cs) in
      zero-from_quotient o field.ring r (c ∷ cs) roots.1
      (zero-from_roots rs (quotient o r (c ∷ cs)) shorter (more_roots r (c ∷ cs) rs roots.0 roots.1 roots.2 roots.3))
