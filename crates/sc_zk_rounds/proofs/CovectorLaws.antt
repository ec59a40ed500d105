-- The value of a mask is the sum of its coefficients times powers.
use Rattle.std.proofs.Common.{◌≡◌, ℕ, suc, ◌+◌, List, [], ◌∷◌, length, map, sym, ◌∙◌, ap, refl, arith}
use Rattle.std.specs.List.{range_with_len}
use Rattle.sc_definitions.specs.Ring.{Ops, IsRing, plus, times, power}
use Rattle.sc_definitions.specs.Polynomials.{poly_at}
use Rattle.sc_definitions.proofs.RingLaws.{times-one, times_comm}
use Rattle.sc_definitions.proofs.RootLaws.{element-poly_at}
use Rattle.sc_definitions.proofs.Identity.{atom, nought, ◌⊕◌, ◌⊗◌, Agree, identity}
use Rattle.sc_zk_definitions.specs.Masks.{masks_at, powers_below}
use Rattle.sc_zk_rounds.specs.Values.{paired, all_paired, CovectorsTell}

module _ (o : Ops) (ring : IsRing o) where
  -- times the powers from one on, it is its value times that power
  paired-from : (s : List ℕ) (x k : ℕ) → paired o s (map (power o x) (range_with_len k (length s))) ≡ times o (power o x k) (poly_at o s x)
  unfolding paired poly_at power Agree
  paired-from [] x k = identity o ring (power o x k ∷ []) nought (atom 0 ⊗ nought) tt tt refl
  paired-from (c ∷ cs) x k =
      let P = power o x k in
      let V = poly_at o cs x in
      let next : k + 1 ≡ suc k = omega arith in
      ap (λ j. plus o (times o c P) (paired o cs (map (power o x) (range_with_len j (length cs))))) next
      ∙ ap (plus o (times o c P)) (paired-from cs x (suc k))
      ∙ identity o ring (c ∷ P ∷ x ∷ V ∷ []) (atom 0 ⊗ atom 1 ⊕ (atom 2 ⊗ atom 1) ⊗ atom 3) (atom 1 ⊗ (atom 0 ⊕ atom 2 ⊗ atom 3)) tt tt refl

  -- times all powers it is its value
  paired-all : (s : List ℕ) (x l : ℕ) → length s ≡ l → poly_at o s x ≡ paired o s (powers_below o l x)
  unfolding power
  paired-all s x l size =
      sym (ap (λ n. paired o s (map (power o x) (range_with_len 0 n))) (sym size) ∙ paired-from s x 0
      ∙ times_comm o ring 1 (poly_at o s x) ∙ times-one o ring (poly_at o s x) ∙ element-poly_at o ring s x)

  pub covectors-tell : CovectorsTell o
  unfolding masks_at all_paired
  covectors-tell l [] xs all = refl
  covectors-tell l (s ∷ ss) [] all = refl
  covectors-tell l (s ∷ ss) (x ∷ xs) all =
      ap (λ v. plus o v (masks_at o ss xs)) (paired-all s x l (all 0 s (omega arith))) ∙ ap (plus o (paired o s (powers_below o l x))) (covectors-tell l ss xs (λ k d low. all (suc k) d (omega (arith, low))))
