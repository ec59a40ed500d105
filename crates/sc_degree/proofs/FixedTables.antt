-- Tables with their first variable bound, one after the other.
use Rattle.std.proofs.Common.{◌≡◌, ◌≢◌, ℕ, zero, suc, ◌+◌, ◌-◌, ◌^◌, ◌<◌, ◌≤◌, List, [], ◌∷◌, ◌++◌, length, map, All, get_or, set, sym, ◌∙◌, ap, refl, subst, arith, ⊎_elim}
use Rattle.std.proofs.lemmas.Bool.{cases_lt}
use Rattle.std.proofs.lemmas.List.{length-append, length-map, get_or-set_same, get_or-set_other, get_or_default}
use Rattle.sc_definitions.specs.Ring.{Ops, IsRing, minus, times}
use Rattle.sc_definitions.specs.Tables.{prefix, value, digits}
use Rattle.sc_definitions.specs.Polynomials.{poly_plus, poly_times, poly_sum}
use Rattle.sc_definitions.specs.Products.{values_product, product_claim, line_of, lines_product, product_round}
use Rattle.sc_definitions.proofs.Sums.{sum-same}
use Rattle.sc_definitions.proofs.TableLaws.{length-digits}
use Rattle.sc_table.specs.declared.poly.Poly.{Poly}
use Rattle.sc_table.specs.Polys.{variables_of, table_of, IsFixed}
use Rattle.sc_degree.specs.Provers.{IsFolded}
use Rattle.sc_degree.specs.Products.{prover_of}

-- The first n of these tables have their first variable bound at r, and the others are as they were.
pub record AreFixed {X : Type 0} (o : Ops) (number : X → ℕ) (r n : ℕ) (old new : List (Poly X)) : Type 0 where
  pub fixed : (k : ℕ) (d : Poly X) → k < n → IsFixed prefix o number r (get_or old k d) (get_or new k d)
  pub left : (k : ℕ) (d : Poly X) → n ≤ k → get_or new k d ≡ get_or old k d

module _ {X : Type 0} (o : Ops) (number : X → ℕ) (r : ℕ) where
  pub fixed-none : (tables : List (Poly X)) → AreFixed o number r 0 tables tables
  fixed-none tables = record { fixed = λ k d low. absurd (omega (arith, low)); left = λ k d high. refl }

  -- one table more
  pub fixed-more : (n : ℕ) (old new : List (Poly X)) (u d : Poly X) → n < length new → AreFixed o number r n old new →
      IsFixed prefix o number r (get_or new n d) u → AreFixed o number r (n + 1) old (set new n u)
  fixed-more n old new u d inside so_far is = record {
    fixed = λ k e low. ⊎_elim
        (λ less. let apart : k ≢ n = omega (arith, less) in
        subst (IsFixed prefix o number r (get_or old k e)) (sym (get_or-set_other new n k u e apart)) (so_far.fixed k e less))
        (λ at. let here : n ≡ k = omega (arith, at, low) in
        subst (λ j. IsFixed prefix o number r (get_or old j e) (get_or (set new n u) j e)) here
        (subst (IsFixed prefix o number r (get_or old n e)) (sym (get_or-set_same new n u e inside))
        (subst (λ t. IsFixed prefix o number r t u) (get_or_default new n d e inside ∙ so_far.left n e (omega arith)) is)))
        (cases_lt k n);
    left = λ k e high. let apart : k ≢ n = omega (arith, high) in get_or-set_other new n k u e apart ∙ so_far.left k e (omega (arith, high));
  }

-- ---- what is left of a prover

sums-same : (o : Ops) (n : ℕ) (F G : ℕ → List ℕ) → ((b : ℕ) → F b ≡ G b) → poly_sum o n F ≡ poly_sum o n G
unfolding poly_sum
sums-same o zero F G same = refl
sums-same o (suc n) F G same = ap (λ cs. poly_plus o cs (F n)) (sums-same o n F G same) ∙ ap (poly_plus o (poly_sum o n G)) (same n)

module _ {X : Type 0} (o : Ops) (ring : IsRing o) (number : X → ℕ) (r : ℕ) where
  -- a value of the bound table is the value with r first
  fixed-value : (t u : Poly X) (n : ℕ) (qs : List ℕ) (z m b : ℕ) → IsFixed prefix o number r t u → variables_of u ≡ n → length qs + suc m ≡ n →
      value o (table_of number u) (qs ++ z ∷ digits m b) ≡ value o (table_of number t) (r ∷ (qs ++ z ∷ digits m b))
  fixed-value t u n qs z m b fixed arity long =
      fixed.values (qs ++ z ∷ digits m b)
      (length-append qs (z ∷ digits m b) ∙ ap (λ k. length qs + suc k) (length-digits o ring m b) ∙ long ∙ sym arity)

  -- the lines of the bound tables are those of the tables with r first
  lines-fixed : (ts us : List (Poly X)) (n : ℕ) (qs : List ℕ) (m b : ℕ) → length us ≡ length ts → All (λ t. variables_of t ≡ n) us →
      length qs + suc m ≡ n → ((k : ℕ) (d : Poly X) → k < length ts → IsFixed prefix o number r (get_or ts k d) (get_or us k d)) →
      lines_product o (map (table_of number) us) qs m b ≡ lines_product o (map (table_of number) ts) (r ∷ qs) m b
  unfolding lines_product line_of
  lines-fixed [] [] n qs m b same arity long are = refl
  lines-fixed [] (u ∷ us) n qs m b same arity long are = absurd (omega (arith, same))
  lines-fixed (t ∷ ts) [] n qs m b same arity long are = absurd (omega (arith, same))
  lines-fixed (t ∷ ts) (u ∷ us) n qs m b same arity long are =
      let g = table_of number u in
      let here : (z : ℕ) → value o g (qs ++ z ∷ digits m b) ≡ value o (table_of number t) (r ∷ (qs ++ z ∷ digits m b)) =
      λ z. fixed-value t u n qs z m b (are 0 u (omega arith)) (arity 0 u (omega arith)) long in
      let rest = lines_product o (map (table_of number) us) qs m b in
      ap (λ v. poly_times o (v ∷ minus o (value o g (qs ++ 1 ∷ digits m b)) v ∷ []) rest) (here 0)
      ∙ ap (λ v. poly_times o (value o (table_of number t) (r ∷ (qs ++ 0 ∷ digits m b)) ∷ minus o v (value o (table_of number t) (r ∷ (qs ++ 0 ∷ digits m b))) ∷ []) rest) (here 1)
      ∙ ap (poly_times o (line_of o (table_of number t) (r ∷ qs) m b))
      (lines-fixed ts us n qs m b (omega (arith, same)) (λ k d low. arity (suc k) d (omega (arith, low))) long (λ k d low. are (suc k) d (omega (arith, low))))

  -- the product of the bound tables' values is that of the tables' with r first
  values-fixed : (ts us : List (Poly X)) (n : ℕ) (zs : List ℕ) → length us ≡ length ts → All (λ t. variables_of t ≡ n) us → length zs ≡ n →
      ((k : ℕ) (d : Poly X) → k < length ts → IsFixed prefix o number r (get_or ts k d) (get_or us k d)) →
      values_product o (map (table_of number) us) zs ≡ values_product o (map (table_of number) ts) (r ∷ zs)
  unfolding values_product
  values-fixed [] [] n zs same arity long are = refl
  values-fixed [] (u ∷ us) n zs same arity long are = absurd (omega (arith, same))
  values-fixed (t ∷ ts) [] n zs same arity long are = absurd (omega (arith, same))
  values-fixed (t ∷ ts) (u ∷ us) n zs same arity long are =
      ap (λ v. times o v (values_product o (map (table_of number) us) zs)) ((are 0 u (omega arith)).values zs (long ∙ sym (arity 0 u (omega arith))))
      ∙ ap (times o (value o (table_of number t) (r ∷ zs)))
      (values-fixed ts us n zs (omega (arith, same)) (λ k d low. arity (suc k) d (omega (arith, low))) long (λ k d low. are (suc k) d (omega (arith, low))))

  -- as many variables are left in each
  pub fixed-arity : (ts us : List (Poly X)) (n m : ℕ) → length us ≡ length ts → All (λ t. variables_of t ≡ n) ts → n ≡ m + 1 →
      ((k : ℕ) (d : Poly X) → k < length ts → IsFixed prefix o number r (get_or ts k d) (get_or us k d)) → All (λ t. variables_of t ≡ m) us
  fixed-arity ts us n m same arity one_less are = λ k d low.
      let inside : k < length ts = omega (arith, low, same) in
      omega (arith, (are k d inside).fewer, arity k d inside, one_less)

  -- the bound tables are the prover with r folded in
  pub folded : (ts us : List (Poly X)) (n m : ℕ) → length us ≡ length ts → All (λ t. variables_of t ≡ n) ts → n ≡ m + 1 →
      ((k : ℕ) (d : Poly X) → k < length ts → IsFixed prefix o number r (get_or ts k d) (get_or us k d)) →
      IsFolded (r ∷ []) (prover_of o (map (table_of number) ts) n) (prover_of o (map (table_of number) us) m)
  unfolding product_round product_claim
  folded ts us n m same arity one_less are =
      let left = fixed-arity ts us n m same arity one_less are in
      record {
        degree = length-map us (table_of number) ∙ same ∙ sym (length-map ts (table_of number));
        variables = omega (arith, one_less);
        polynomial = λ qs low.
            let k = m - suc (length qs) in
            let behind : length qs + suc k ≡ m = omega (arith, low) in
            let e : k ≡ n - suc (suc (length qs)) = omega (arith, low, one_less) in
            sums-same o (2 ^ k) _ _ (λ b. lines-fixed ts us m qs k b same left behind are)
            ∙ ap (λ j. product_round o (map (table_of number) ts) (r ∷ qs) j) e;
        claim = λ qs low.
            let k = m - length qs in
            let e : k ≡ n - suc (length qs) = omega (arith, one_less) in
            sum-same o (2 ^ k) _ _ (λ b under. values-fixed ts us m (qs ++ digits k b) same left
            (length-append qs (digits k b) ∙ ap (λ j. length qs + j) (length-digits o ring k b) ∙ omega (arith, low)) are)
            ∙ ap (λ j. product_claim o (map (table_of number) ts) (r ∷ qs) j) e;
      }
