-- The claims of the test's prover are those of its polynomials.
use Rattle.std.proofs.Common.{◌≡◌, ℕ, suc, ◌+◌, ◌-◌, ◌/◌, ◌^◌, ◌<◌, List, [], ◌∷◌, ◌++◌, length, slice_index, refl, sym, ◌∙◌, ap, subst, arith}
use Rattle.std.proofs.lemmas.List.{length-map}
use Rattle.std.proofs.lemmas.List.FromFn.{length-map-range_with_len, get_or-map-range_with_len}
use Rattle.sc_definitions.specs.Ring.{Ops, IsRing, plus, times}
use Rattle.sc_definitions.specs.Tables.{sum_below}
use Rattle.sc_definitions.specs.Polynomials.{poly_at}
use Rattle.sc_definitions.proofs.Identity.{atom, nought, unit, ◌⊕◌, ◌⊗◌, ◌⊖◌, Agree, identity}
use Rattle.sc_definitions.proofs.Sums.{sum-same, sum-split, sum-plus, times-sum}
use Rattle.sc_definitions.proofs.TableLaws.{two_halves}
use Rattle.sc_degree.specs.Provers.{IsTied}
use Rattle.sc_degree_tests.specs.declared.two_products.TwoProducts.{TwoProducts}
use Rattle.sc_degree_tests.specs.Sums.{Tables, gap, bound_at, bound, constant, linear, leading, in_sum, round_of_two, bound_all, after, claim_of_two, sum_of_two}
use Rattle.sc_degree_tests.specs.Views.{tables_in}

-- ---- as many rows as m variables have

record IsSized (m : ℕ) (t : Tables) : Type 0 where
  a : length t.a ≡ 2 ^ m
  b : length t.b ≡ 2 ^ m
  c : length t.c ≡ 2 ^ m
  d : length t.d ≡ 2 ^ m

half-size : (m n : ℕ) → n ≡ 2 ^ suc m → n / 2 ≡ 2 ^ m
half-size m n is = omega (arith, is, two_halves m)

bound-size : (o : Ops) (r m : ℕ) (xs : List ℕ) → length xs ≡ 2 ^ suc m → length (bound o r xs) ≡ 2 ^ m
unfolding bound
bound-size o r m xs is = length-map-range_with_len (bound_at o r xs) 0 (length xs / 2) ∙ half-size m (length xs) is

bound_all-size : (o : Ops) (r m : ℕ) (t : Tables) → IsSized (suc m) t → IsSized m (bound_all o r t)
bound_all-size o r m t is = record {
  a = bound-size o r m t.a is.a;
  b = bound-size o r m t.b is.b;
  c = bound-size o r m t.c is.c;
  d = bound-size o r m t.d is.d;
}

after-size : (o : Ops) (t : Tables) (rs : List ℕ) (m : ℕ) → IsSized (length rs + m) t → IsSized m (after o t rs)
after-size o t [] m is = subst (λ n. IsSized n t) (let e : 0 + m ≡ m = omega arith in e) is
after-size o t (r ∷ rs) m is =
    let e : suc (length rs) + m ≡ suc (length rs + m) = omega arith in
    after-size o (bound_all o r t) rs m (bound_all-size o r (length rs + m) t (subst (λ n. IsSized n t) e is))

after-last : (o : Ops) (t : Tables) (rs : List ℕ) (r : ℕ) → after o t (rs ++ r ∷ []) ≡ bound_all o r (after o t rs)
after-last o t [] r = refl
after-last o t (q ∷ rs) r = after-last o (bound_all o q t) rs r

-- ---- the sum over the rows of the product of two tables, with the first variable at x

abbrev sum_at : Ops → ℕ → List ℕ → List ℕ → ℕ
sum_at o x xs ys = sum_below o (length xs / 2) (λ k. times o (bound_at o x xs k) (bound_at o x ys k))

abbrev sum_of : Ops → List ℕ → List ℕ → ℕ
sum_of o xs ys = sum_below o (length xs) (λ k. times o (slice_index xs k) (slice_index ys k))

module _ (o : Ops) (ring : IsRing o) where
  -- the lines' product at one row
  row-at : (x : ℕ) (xs ys : List ℕ) (k : ℕ) →
      plus o (constant o xs ys k) (times o x (plus o (linear o xs ys k) (times o x (leading o xs ys k)))) ≡ times o (bound_at o x xs k) (bound_at o x ys k)
  unfolding constant linear leading bound_at Agree
  row-at x xs ys k =
      let A = atom 0 in
      let B = atom 1 in
      let G = atom 2 in
      let H = atom 3 in
      let X = atom 4 in
      identity o ring (slice_index xs k ∷ slice_index ys k ∷ gap o xs k ∷ gap o ys k ∷ x ∷ []) ((A ⊗ B) ⊕ X ⊗ ((A ⊗ H ⊕ G ⊗ B) ⊕ X ⊗ (G ⊗ H)))
      ((A ⊕ G ⊗ X) ⊗ (B ⊕ H ⊗ X)) tt tt refl

  -- and over all rows
  rows-at : (x : ℕ) (xs ys : List ℕ) →
      plus o (in_sum o constant xs ys) (times o x (plus o (in_sum o linear xs ys) (times o x (in_sum o leading xs ys)))) ≡ sum_at o x xs ys
  rows-at x xs ys =
      let n = length xs / 2 in
      ap (λ s. plus o (in_sum o constant xs ys) (times o x (plus o (in_sum o linear xs ys) s))) (times-sum o ring x n (leading o xs ys))
      ∙ ap (λ s. plus o (in_sum o constant xs ys) (times o x s)) (sum-plus o ring n (linear o xs ys) (λ k. times o x (leading o xs ys k)))
      ∙ ap (plus o (in_sum o constant xs ys)) (times-sum o ring x n (λ k. plus o (linear o xs ys k) (times o x (leading o xs ys k))))
      ∙ sum-plus o ring n (constant o xs ys) (λ k. times o x (plus o (linear o xs ys k) (times o x (leading o xs ys k))))
      ∙ sum-same o n _ _ (λ k low. row-at x xs ys k)

  -- the round's polynomial at x
  round-at : (t : Tables) (x : ℕ) → poly_at o (round_of_two o t) x ≡ plus o (sum_at o x t.a t.b) (sum_at o x t.c t.d)
  unfolding poly_at Agree
  round-at t x =
      let C = atom 0 in
      let D = atom 1 in
      let L = atom 2 in
      let M = atom 3 in
      let P = atom 4 in
      let Q = atom 5 in
      let X = atom 6 in
      identity o ring
      (in_sum o constant t.a t.b ∷ in_sum o constant t.c t.d ∷ in_sum o linear t.a t.b ∷ in_sum o linear t.c t.d ∷ in_sum o leading t.a t.b ∷ in_sum o leading t.c t.d ∷ x ∷ [])
      ((C ⊕ D) ⊕ X ⊗ ((L ⊕ M) ⊕ X ⊗ ((P ⊕ Q) ⊕ X ⊗ nought))) ((C ⊕ X ⊗ (L ⊕ X ⊗ P)) ⊕ (D ⊕ X ⊗ (M ⊕ X ⊗ Q))) tt tt refl
      ∙ ap (λ s. plus o s (plus o (in_sum o constant t.c t.d) (times o x (plus o (in_sum o linear t.c t.d) (times o x (in_sum o leading t.c t.d)))))) (rows-at x t.a t.b)
      ∙ ap (plus o (sum_at o x t.a t.b)) (rows-at x t.c t.d)

  -- it is the sum over the rows of the tables that are bound there
  bound-entry : (x : ℕ) (xs : List ℕ) (k : ℕ) → k < length xs / 2 → slice_index (bound o x xs) k ≡ bound_at o x xs k
  unfolding bound
  bound-entry x xs k low = get_or-map-range_with_len (bound_at o x xs) 0 (length xs / 2) k k 0 low (omega arith)

  bound-sum : (x : ℕ) (xs ys : List ℕ) → length xs ≡ length ys → sum_of o (bound o x xs) (bound o x ys) ≡ sum_at o x xs ys
  unfolding bound
  bound-sum x xs ys same =
      ap (λ n. sum_below o n (λ k. times o (slice_index (bound o x xs) k) (slice_index (bound o x ys) k))) (length-map-range_with_len (bound_at o x xs) 0 (length xs / 2))
      ∙ sum-same o (length xs / 2) _ _ (λ k low.
      ap (λ v. times o v (slice_index (bound o x ys) k)) (bound-entry x xs k low)
      ∙ ap (times o (bound_at o x xs k)) (bound-entry x ys k (subst (λ n. k < n / 2) same low)))

  round-next : (t : Tables) (x m : ℕ) → IsSized m t → poly_at o (round_of_two o t) x ≡ claim_of_two o (bound_all o x t)
  round-next t x m is =
      round-at t x
      ∙ ap (λ s. plus o s (sum_at o x t.c t.d)) (sym (bound-sum x t.a t.b (is.a ∙ sym is.b)))
      ∙ ap (plus o (sum_of o (bound o x t.a) (bound o x t.b))) (sym (bound-sum x t.c t.d (is.c ∙ sym is.d)))

  -- at 0 and 1 together it is the sum over both halves of the rows
  at-zero : (xs ys : List ℕ) (k : ℕ) → times o (bound_at o 0 xs k) (bound_at o 0 ys k) ≡ times o (slice_index xs k) (slice_index ys k)
  unfolding bound_at Agree
  at-zero xs ys k =
      let A = atom 0 in
      let B = atom 1 in
      let G = atom 2 in
      let H = atom 3 in
      identity o ring (slice_index xs k ∷ slice_index ys k ∷ gap o xs k ∷ gap o ys k ∷ []) ((A ⊕ G ⊗ nought) ⊗ (B ⊕ H ⊗ nought)) (A ⊗ B) tt tt refl

  at-one : (xs ys : List ℕ) (k : ℕ) →
      times o (bound_at o 1 xs k) (bound_at o 1 ys k) ≡ times o (slice_index xs (length xs / 2 + k)) (slice_index ys (length ys / 2 + k))
  unfolding bound_at gap Agree
  at-one xs ys k =
      let A = atom 0 in
      let B = atom 1 in
      let C = atom 2 in
      let D = atom 3 in
      identity o ring (slice_index xs k ∷ slice_index ys k ∷ slice_index xs (length xs / 2 + k) ∷ slice_index ys (length ys / 2 + k) ∷ [])
      ((A ⊕ (C ⊖ A) ⊗ unit) ⊗ (B ⊕ (D ⊖ B) ⊗ unit)) (C ⊗ D) tt tt refl

  both-halves : (xs ys : List ℕ) (m : ℕ) → length xs ≡ 2 ^ suc m → length ys ≡ 2 ^ suc m → plus o (sum_at o 0 xs ys) (sum_at o 1 xs ys) ≡ sum_of o xs ys
  both-halves xs ys m is_xs is_ys =
      let h = length xs / 2 in
      let f : ℕ → ℕ = λ k. times o (slice_index xs k) (slice_index ys k) in
      let same : length ys / 2 ≡ h = ap (λ n. n / 2) (is_ys ∙ sym is_xs) in
      let whole : h + h ≡ length xs = omega (arith, is_xs, two_halves m) in
      ap (λ s. plus o s (sum_at o 1 xs ys)) (sum-same o h _ f (λ k low. at-zero xs ys k))
      ∙ ap (plus o (sum_below o h f)) (sum-same o h _ (λ k. f (h + k)) (λ k low. at-one xs ys k ∙ ap (λ n. times o (slice_index xs (h + k)) (slice_index ys (n + k))) same))
      ∙ sym (sum-split o ring h h f) ∙ ap (λ n. sum_below o n f) whole

  round-sum : (t : Tables) (m : ℕ) → IsSized (suc m) t → plus o (poly_at o (round_of_two o t) 0) (poly_at o (round_of_two o t) 1) ≡ claim_of_two o t
  unfolding Agree
  round-sum t m is =
      let A = atom 0 in
      let B = atom 1 in
      let C = atom 2 in
      let D = atom 3 in
      ap (λ s. plus o s (poly_at o (round_of_two o t) 1)) (round-at t 0)
      ∙ ap (plus o (plus o (sum_at o 0 t.a t.b) (sum_at o 0 t.c t.d))) (round-at t 1)
      ∙ identity o ring (sum_at o 0 t.a t.b ∷ sum_at o 0 t.c t.d ∷ sum_at o 1 t.a t.b ∷ sum_at o 1 t.c t.d ∷ []) ((A ⊕ B) ⊕ (C ⊕ D)) ((A ⊕ C) ⊕ (B ⊕ D)) tt tt refl
      ∙ ap (λ s. plus o s (plus o (sum_at o 0 t.c t.d) (sum_at o 1 t.c t.d))) (both-halves t.a t.b m is.a is.b)
      ∙ ap (plus o (sum_of o t.a t.b)) (both-halves t.c t.d m is.c is.d)

  -- ---- the prover

  tables-tied : (t : Tables) (n : ℕ) → IsSized n t → IsTied o (sum_of_two o t n)
  tables-tied t n is = record {
    coefficients = λ rs low. refl;
    sum = λ rs low.
        let left : n ≡ length rs + suc (n - suc (length rs)) = omega (arith, low) in
        round-sum (after o t rs) (n - suc (length rs)) (after-size o t rs (suc (n - suc (length rs))) (subst (λ k. IsSized k t) left is));
    next = λ rs r low.
        let left : n ≡ length rs + suc (n - suc (length rs)) = omega (arith, low) in
        round-next (after o t rs) r (suc (n - suc (length rs))) (after-size o t rs (suc (n - suc (length rs))) (subst (λ k. IsSized k t) left is))
        ∙ ap (claim_of_two o) (sym (after-last o t rs r));
  }

  pub two-tied : {EF : Type 0} (number : EF → ℕ) (p : TwoProducts EF) → IsTied o (sum_of_two o (tables_in number p) p.variables)
  two-tied number p =
      tables-tied (tables_in number p) p.variables
      (record {
        a = length-map p.a.items number ∙ sym p.a.ok.0 ∙ p.rows;
        b = length-map p.b.items number ∙ sym p.b.ok.0 ∙ sym p.first ∙ p.rows;
        c = length-map p.c.items number ∙ sym p.c.ok.0 ∙ p.other_rows;
        d = length-map p.d.items number ∙ sym p.d.ok.0 ∙ sym p.second ∙ p.other_rows;
      })
