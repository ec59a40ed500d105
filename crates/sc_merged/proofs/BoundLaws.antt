-- Tables with weights that are bound one after the other.
use Rattle.std.proofs.Common.{◌≡◌, ◌≢◌, ℕ, suc, ◌+◌, ◌<◌, List, [], ◌∷◌, length, map, All, get_or, set, refl, sym, ◌∙◌, subst, arith, ⊎_elim}
use Rattle.std.proofs.lemmas.Bool.{cases_lt}
use Rattle.std.proofs.lemmas.List.{get_or-set_same, get_or-set_other, get_or_default}
use Rattle.sc_definitions.specs.Ring.{Ops}
use Rattle.sc_soundness.specs.Merged.{bound_table}
use Rattle.sc_merged.specs.declared.weighted.WeightedPoly.{WeightedPoly}
use Rattle.sc_merged.specs.SameRows.{HasSameRows, HaveSameRows}
use Rattle.sc_merged.specs.WeightedPolys.{arity_in, weighted_in}
use Rattle.sc_merged.specs.BoundPolys.{IsBound, AreBound}

module _ {X : Type 0} (o : Ops) (number : X → ℕ) (r : ℕ) where
  pub bound-none : (pairs : List (WeightedPoly X)) → AreBound o number r 0 pairs pairs
  bound-none pairs = record { bound = λ k d low. absurd (omega (arith, low)); left = λ k d high. refl }

  -- one more
  pub bound-more : (n : ℕ) (old new : List (WeightedPoly X)) (u d : WeightedPoly X) → n < length new → AreBound o number r n old new →
      IsBound o number r (get_or new n d) u → AreBound o number r (n + 1) old (set new n u)
  bound-more n old new u d inside so_far is = record {
    bound = λ k e low. ⊎_elim
        (λ less. let apart : k ≢ n = omega (arith, less) in
        subst (IsBound o number r (get_or old k e)) (sym (get_or-set_other new n k u e apart)) (so_far.bound k e less))
        (λ at. let here : n ≡ k = omega (arith, at, low) in
        subst (λ j. IsBound o number r (get_or old j e) (get_or (set new n u) j e)) here
        (subst (IsBound o number r (get_or old n e)) (sym (get_or-set_same new n u e inside))
        (subst (λ t. IsBound o number r t u) (get_or_default new n d e inside ∙ so_far.left n e (omega arith)) is)))
        (cases_lt k n);
    left = λ k e high. let apart : k ≢ n = omega (arith, high) in get_or-set_other new n k u e apart ∙ so_far.left k e (omega (arith, high));
  }

  -- as many variables are left in each
  pub bound-arity : (olds news : List (WeightedPoly X)) (n m : ℕ) → length news ≡ length olds → All (λ p. arity_in p ≡ n) olds → n ≡ m + 1 →
      ((k : ℕ) (d : WeightedPoly X) → k < length olds → IsBound o number r (get_or olds k d) (get_or news k d)) → All (λ p. arity_in p ≡ m) news
  bound-arity olds news n m same arity one_less are = λ k d low.
      let inside : k < length olds = omega (arith, low, same) in
      omega (arith, (are k d inside).fewer, arity k d inside, one_less)

  -- all of them
  pub bound-all : (olds news : List (WeightedPoly X)) (m : ℕ) → length news ≡ length olds → All (λ p. arity_in p ≡ m) news →
      ((k : ℕ) (d : WeightedPoly X) → k < length olds → IsBound o number r (get_or olds k d) (get_or news k d)) →
      HaveSameRows m (map (weighted_in number) news) (map (bound_table o (r ∷ []) m) (map (weighted_in number) olds))
  bound-all [] [] m same arity are = tt
  bound-all [] (u ∷ us) m same arity are = absurd (omega (arith, same))
  bound-all (t ∷ ts) [] m same arity are = absurd (omega (arith, same))
  bound-all (t ∷ ts) (u ∷ us) m same arity are = (
    subst (λ k. HasSameRows k (weighted_in number u) (bound_table o (r ∷ []) k (weighted_in number t))) (arity 0 u (omega arith)) (are 0 u (omega arith)).bound,
    bound-all ts us m (omega (arith, same)) (λ k d low. arity (suc k) d (omega (arith, low))) (λ k d low. are (suc k) d (omega (arith, low))),
  )
