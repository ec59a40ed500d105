-- The value of a polynomial is the sum of its coefficients times powers.
use Rattle.std.proofs.Common.{◌≡◌, ℕ, zero, suc, List, [], ◌∷◌, ◌∙◌, ap, refl}
use Rattle.sc_definitions.specs.Ring.{Ops, IsRing, plus, times, power}
use Rattle.sc_definitions.specs.Polynomials.{poly_at}
use Rattle.sc_definitions.specs.Statements.{batched_by_powers}
use Rattle.sc_definitions.specs.Lucky.{after_zeros}
use Rattle.sc_definitions.proofs.Identity.{atom, nought, unit, ◌⊕◌, ◌⊗◌, Agree, identity}

module _ (o : Ops) (ring : IsRing o) where
  -- coefficients after zeros, at c, are their sum times powers of c
  powers-shift : (c p : ℕ) (xs : List ℕ) → times o c (batched_by_powers o c p xs) ≡ batched_by_powers o c (suc p) xs
  unfolding batched_by_powers power Agree
  powers-shift c p [] = identity o ring (c ∷ []) (atom 0 ⊗ nought) nought tt tt refl
  powers-shift c p (x ∷ xs) =
      let C = atom 0 in let X = atom 1 in let P = atom 2 in let S = atom 3 in
      identity o ring (c ∷ x ∷ power o c p ∷ batched_by_powers o c (suc p) xs ∷ []) (C ⊗ (P ⊗ X ⊕ S)) ((C ⊗ P) ⊗ X ⊕ C ⊗ S) tt tt refl
      ∙ ap (plus o (times o (power o c (suc p)) x)) (powers-shift c (suc p) xs)

  pub poly_at-zeros : (n : ℕ) (xs : List ℕ) (c : ℕ) → poly_at o (after_zeros n xs) c ≡ batched_by_powers o c n xs
  unfolding poly_at batched_by_powers power Agree
  poly_at-zeros zero [] c = refl
  poly_at-zeros zero (x ∷ xs) c =
      ap (λ v. plus o x (times o c v)) (poly_at-zeros zero xs c) ∙ ap (plus o x) (powers-shift c 0 xs)
      ∙ identity o ring (x ∷ batched_by_powers o c 1 xs ∷ []) (atom 0 ⊕ atom 1) (unit ⊗ atom 0 ⊕ atom 1) tt tt refl
  poly_at-zeros (suc n) xs c =
      let S = times o c (batched_by_powers o c n xs) in
      ap (λ v. plus o 0 (times o c v)) (poly_at-zeros n xs c)
      ∙ identity o ring (c ∷ batched_by_powers o c n xs ∷ []) (nought ⊕ atom 0 ⊗ atom 1) (atom 0 ⊗ atom 1) tt tt refl
      ∙ powers-shift c n xs

  pub poly_at-powers : (xs : List ℕ) (c : ℕ) → poly_at o xs c ≡ batched_by_powers o c 0 xs
  poly_at-powers xs c = poly_at-zeros 0 xs c
