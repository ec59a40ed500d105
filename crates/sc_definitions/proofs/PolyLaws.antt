-- Sums, multiples and products of polynomials, by their values.
use Rattle.std.proofs.Common.{◌≡◌, ℕ, zero, suc, ◌≤◌, List, [], ◌∷◌, length, sym, ◌∙◌, ap, refl, subst, arith}
use Rattle.sc_definitions.specs.Tables.{sum_below}
use Rattle.sc_definitions.specs.Ring.{Ops, IsRing, plus, times, minus}
use Rattle.sc_definitions.specs.Polynomials.{poly_at, poly_plus, poly_scaled, poly_times, poly_sum, poly_minus}
use Rattle.sc_definitions.proofs.RingLaws.{plus-zero, plus_comm, times-zero}
use Rattle.sc_definitions.proofs.RootLaws.{element-poly_at}
use Rattle.sc_definitions.proofs.Identity.{atom, nought, ◌⊕◌, ◌⊗◌, ◌⊖◌, Agree, identity}

module _ (o : Ops) (ring : IsRing o) where
  pub poly_at-plus : (cs ds : List ℕ) (x : ℕ) → poly_at o (poly_plus o cs ds) x ≡ plus o (poly_at o cs x) (poly_at o ds x)
  unfolding poly_plus poly_at Agree
  poly_at-plus [] ds x = sym (element-poly_at o ring ds x) ∙ sym (plus-zero o ring (poly_at o ds x)) ∙ plus_comm o ring (poly_at o ds x) 0
  poly_at-plus (c ∷ cs) [] x = sym (element-poly_at o ring (c ∷ cs) x) ∙ sym (plus-zero o ring (poly_at o (c ∷ cs) x))
  poly_at-plus (c ∷ cs) (d ∷ ds) x =
      let C = atom 0 in let D = atom 1 in let X = atom 2 in let P = atom 3 in let Q = atom 4 in
      ap (λ p. plus o (plus o c d) (times o x p)) (poly_at-plus cs ds x)
      ∙ identity o ring (c ∷ d ∷ x ∷ poly_at o cs x ∷ poly_at o ds x ∷ [])
      ((C ⊕ D) ⊕ X ⊗ (P ⊕ Q)) ((C ⊕ X ⊗ P) ⊕ (D ⊕ X ⊗ Q)) tt tt refl

  pub poly_at-scaled : (k : ℕ) (cs : List ℕ) (x : ℕ) → poly_at o (poly_scaled o k cs) x ≡ times o k (poly_at o cs x)
  unfolding poly_scaled poly_at Agree
  poly_at-scaled k [] x = sym (times-zero o ring k)
  poly_at-scaled k (c ∷ cs) x =
      let K = atom 0 in let C = atom 1 in let X = atom 2 in let P = atom 3 in
      ap (λ p. plus o (times o k c) (times o x p)) (poly_at-scaled k cs x)
      ∙ identity o ring (k ∷ c ∷ x ∷ poly_at o cs x ∷ []) (K ⊗ C ⊕ X ⊗ (K ⊗ P)) (K ⊗ (C ⊕ X ⊗ P)) tt tt refl

  pub poly_at-times : (cs ds : List ℕ) (x : ℕ) → poly_at o (poly_times o cs ds) x ≡ times o (poly_at o cs x) (poly_at o ds x)
  unfolding poly_times poly_at Agree
  poly_at-times [] ds x = sym (times-zero o ring (poly_at o ds x)) ∙ identity o ring (poly_at o ds x ∷ []) (atom 0 ⊗ nought) (nought ⊗ atom 0) tt tt refl
  poly_at-times (c ∷ cs) ds x =
      let C = atom 0 in let X = atom 1 in let P = atom 2 in let Q = atom 3 in
      poly_at-plus (poly_scaled o c ds) (0 ∷ poly_times o cs ds) x
      ∙ ap (λ p. plus o p (plus o 0 (times o x (poly_at o (poly_times o cs ds) x)))) (poly_at-scaled c ds x)
      ∙ ap (λ p. plus o (times o c (poly_at o ds x)) (plus o 0 (times o x p))) (poly_at-times cs ds x)
      ∙ identity o ring (c ∷ x ∷ poly_at o cs x ∷ poly_at o ds x ∷ [])
      (C ⊗ Q ⊕ (nought ⊕ X ⊗ (P ⊗ Q))) ((C ⊕ X ⊗ P) ⊗ Q) tt tt refl

  pub poly_at-minus : (cs ds : List ℕ) (x : ℕ) → length cs ≡ length ds → poly_at o (poly_minus o cs ds) x ≡ minus o (poly_at o cs x) (poly_at o ds x)
  unfolding poly_minus poly_at Agree
  poly_at-minus [] [] x e = identity o ring [] nought (nought ⊖ nought) tt tt refl
  poly_at-minus [] (d ∷ ds) x e = absurd (omega arith)
  poly_at-minus (c ∷ cs) [] x e = absurd (omega arith)
  poly_at-minus (c ∷ cs) (d ∷ ds) x e =
      let C = atom 0 in let D = atom 1 in let X = atom 2 in let P = atom 3 in let Q = atom 4 in
      ap (λ p. plus o (minus o c d) (times o x p)) (poly_at-minus cs ds x (omega arith))
      ∙ identity o ring (c ∷ d ∷ x ∷ poly_at o cs x ∷ poly_at o ds x ∷ [])
      ((C ⊖ D) ⊕ X ⊗ (P ⊖ Q)) ((C ⊕ X ⊗ P) ⊖ (D ⊕ X ⊗ Q)) tt tt refl

  pub length-minus : (cs ds : List ℕ) → length cs ≡ length ds → length (poly_minus o cs ds) ≡ length ds
  unfolding poly_minus
  length-minus [] ds e = e
  length-minus (c ∷ cs) [] e = absurd (omega arith)
  length-minus (c ∷ cs) (d ∷ ds) e = ap suc (length-minus cs ds (omega arith))

  pub poly_at-sum : (n : ℕ) (F : ℕ → List ℕ) (x : ℕ) → poly_at o (poly_sum o n F) x ≡ sum_below o n (λ b. poly_at o (F b) x)
  unfolding poly_sum poly_at sum_below
  poly_at-sum zero F x = refl
  poly_at-sum (suc n) F x =
      poly_at-plus (poly_sum o n F) (F n) x ∙ ap (λ v. plus o v (poly_at o (F n) x)) (poly_at-sum n F x)

  -- lengths
  pub length-plus : (cs ds : List ℕ) → length cs ≤ length ds → length (poly_plus o cs ds) ≡ length ds
  unfolding poly_plus
  length-plus [] ds h = refl
  length-plus (c ∷ cs) [] h = absurd (omega arith)
  length-plus (c ∷ cs) (d ∷ ds) h = ap suc (length-plus cs ds (omega arith))

  pub length-scaled : (k : ℕ) (cs : List ℕ) → length (poly_scaled o k cs) ≡ length cs
  unfolding poly_scaled
  length-scaled k [] = refl
  length-scaled k (c ∷ cs) = ap suc (length-scaled k cs)

  -- a line times a polynomial of n + 1 coefficients has n + 2
  pub length-line_times : (a b d : ℕ) (ds : List ℕ) → length (poly_times o (a ∷ b ∷ []) (d ∷ ds)) ≡ suc (suc (length ds))
  unfolding poly_times poly_scaled poly_plus
  length-line_times a b d ds =
      ap suc (length-plus (poly_scaled o a ds) (poly_plus o (times o b d ∷ poly_scaled o b ds) (0 ∷ [])) (more (omega (arith, length-scaled a ds))) ∙ last) where
        empty_right : (cs : List ℕ) → poly_plus o cs [] ≡ cs
        empty_right [] = refl
        empty_right (c ∷ cs) = refl

        last : length (poly_plus o (times o b d ∷ poly_scaled o b ds) (0 ∷ [])) ≡ suc (length ds)
        last = ap suc (ap length (empty_right (poly_scaled o b ds)) ∙ length-scaled b ds)

        more : length (poly_scaled o a ds) ≤ suc (length ds) → length (poly_scaled o a ds) ≤ length (poly_plus o (times o b d ∷ poly_scaled o b ds) (0 ∷ []))
        more h = subst (λ n. length (poly_scaled o a ds) ≤ n) (sym last) h

  pub length-sum : (n k : ℕ) (F : ℕ → List ℕ) → ((b : ℕ) → length (F b) ≡ k) → length (poly_sum o (suc n) F) ≡ k
  unfolding poly_sum poly_plus
  length-sum zero k F h = h 0
  length-sum (suc n) k F h =
      length-plus (poly_sum o (suc n) F) (F (suc n)) (omega (arith, length-sum n k F h, h (suc n))) ∙ h (suc n)
