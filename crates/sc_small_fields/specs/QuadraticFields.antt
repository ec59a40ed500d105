-- Extensions of degree 2 are over their base, have two parts, and are fields over a field in which k is no square.
use Rattle.std.proofs.Common.{◌≡◌, ◌≢◌, ℕ, zero, suc, ◌*◌, ◌%◌, ◌<◌, ◌≤◌, ◌^◌, List, [], ◌∷◌, length, get_or, ⊎_elim, ◌⊎◌, inl, inr, sym, ◌∙◌, ap, refl, arith}
use Rattle.std.proofs.lemmas.Nat.{mul-le}
use Rattle.std.proofs.Math.Nat.{mod-eq_of_lt}
use Rattle.sc_definitions.specs.Ring.{Ops, IsRing, IsField, IsRingMap, IsExtension, element, plus, times, opposite, minus}
use Rattle.sc_definitions.specs.Quadratic.{pair, low, high, quadratic, pair_extension}
use Rattle.sc_definitions.proofs.RingLaws.{plus_below, times_below, opposite_below, size_pos, plus-zero, element-small, element-zero}
use Rattle.sc_definitions.proofs.Identity.{atom, nought, unit, neg, ◌⊕◌, ◌⊗◌, ◌⊖◌, Agree, identity, same_element}
use Rattle.sc_small_fields.specs.QuadraticLaws.{low-pair, high-pair, pair-parts, pair_below, low_below, high_below, pair-none, same_pair, quadratic_ring, plus-pairs, times-pairs, times-pair_first}

module _ (o : Ops) (ring : IsRing o) where
  module _ (k : ℕ) where
    size_square : (x : ℕ) → x < o.size → x < o.size * o.size
    size_square x h = let more : o.size * 1 ≤ o.size * o.size = mul-le o.size 1 o.size o.size (omega arith) (size_pos o ring) in omega arith

    pub first_map : IsRingMap o (quadratic o k) (λ x. x)
    unfolding Agree
    first_map = record {
      below = size_square;
      zero_kept = refl;
      one_kept = refl;
      plus_kept = λ x y p q.
          sym (ap (λ n. plus (quadratic o k) n y) (sym (pair-none o ring x)) ∙ ap (plus (quadratic o k) (pair o x 0)) (sym (pair-none o ring y))
          ∙ plus-pairs o ring k x 0 y 0 p (size_pos o ring) q (size_pos o ring)
          ∙ ap (pair o (plus o x y)) (plus-zero o ring 0 ∙ element-zero o ring) ∙ pair-none o ring (plus o x y));
      times_kept = λ x y p q.
          sym (ap (λ n. times (quadratic o k) n y) (sym (pair-none o ring x))
          ∙ times-pair_first o ring k x 0 y p (size_pos o ring) q
          ∙ ap (pair o (times o x y)) (identity o ring (y ∷ []) (nought ⊗ atom 0) nought tt tt refl) ∙ pair-none o ring (times o x y));
    }

    two_below : (n a b i d : ℕ) → a < n → b < n → i < 2 → get_or (a ∷ b ∷ []) i d < n
    two_below n a b zero d p q h = p
    two_below n a b (suc zero) d p q h = q
    two_below n a b (suc (suc i)) d p q h = absurd (omega arith)

    two_of : (xs : List ℕ) → length xs ≡ 2 → get_or xs 0 0 ∷ get_or xs 1 0 ∷ [] ≡ xs
    two_of [] e = absurd (omega arith)
    two_of (x ∷ []) e = absurd (omega arith)
    two_of (x ∷ y ∷ []) e = refl
    two_of (x ∷ y ∷ z ∷ xs) e = absurd (omega arith)

    pub pair_extends : IsExtension o (quadratic o k) 2 (pair_extension o).parts (pair_extension o).join
    pair_extends = record {
      degree_least = omega arith;
      degree_most = omega arith;
      length_parts = λ x _. refl;
      parts_below = λ x h i d i_low. two_below o.size (low o x) (high o x) i d (low_below o ring x) (high_below o ring x h) i_low;
      joined_below = λ xs e h. pair_below o ring (get_or xs 0 0) (get_or xs 1 0) (h 0 0 (omega (arith, e))) (h 1 0 (omega (arith, e)));
      joined_split = λ x _. pair-parts o ring x;
      split_joined = λ xs e h.
          ap (λ n. n ∷ high o (pair o (get_or xs 0 0) (get_or xs 1 0)) ∷ []) (low-pair o ring (get_or xs 0 0) (get_or xs 1 0) (h 0 0 (omega (arith, e))))
          ∙ ap (λ n. get_or xs 0 0 ∷ n ∷ []) (high-pair o ring (get_or xs 0 0) (get_or xs 1 0) (h 0 0 (omega (arith, e))))
          ∙ two_of xs e;
    }

    -- the product of a + b u and a - b u
    abbrev pub norm : ℕ → ℕ → ℕ
    norm a b = minus o (times o a a) (times o k (times o b b))

    -- where i inverts the norm of a + b u, i a - i b u inverts a + b u
    pub inverse-pair : (a b i : ℕ) → a < o.size → b < o.size → times o (norm a b) i ≡ 1 →
        times (quadratic o k) (pair o a b) (pair o (times o a i) (opposite o (times o b i))) ≡ 1
    unfolding Agree
    inverse-pair a b i p q e =
        let A = atom 0 in let B = atom 1 in let I = atom 2 in let K = atom 3 in
        let env = a ∷ b ∷ i ∷ k ∷ [] in
        times-pairs o ring k a b (times o a i) (opposite o (times o b i)) p q (times_below o ring a i) (opposite_below o ring (times o b i))
        ∙ same_pair o ring
        (identity o ring env (A ⊗ (A ⊗ I) ⊕ K ⊗ (B ⊗ neg (B ⊗ I))) ((A ⊗ A ⊖ K ⊗ (B ⊗ B)) ⊗ I) tt tt refl ∙ e)
        (identity o ring env (A ⊗ neg (B ⊗ I) ⊕ B ⊗ (A ⊗ I)) nought tt tt refl)
        ∙ pair-none o ring 1

  -- over a field in which no square is k
  module _ (field : IsField o) (k : ℕ) (no_root : (x : ℕ) → x < o.size → times o x x ≢ element o k) where
    inverse_in : (x : ℕ) → x < o.size → x ≢ 0 → (y : ℕ) × (times o x y ≡ 1)
    unfolding times
    inverse_in x h n =
        let r = field.inverse x h n in
        (r.0, ap (λ m. o.raw_times m (r.0 % o.size)) (mod-eq_of_lt h) ∙ ap (o.raw_times x) (mod-eq_of_lt r.1) ∙ r.2)

    zero_or : (n : ℕ) → (n ≡ 0) ⊎ (n ≢ 0)
    zero_or zero = inl refl
    zero_or (suc n) = inr (λ e. omega arith)

    -- a square is not zero
    no_square : (a : ℕ) → a < o.size → a ≢ 0 → times o a a ≡ 0 → ⊥
    unfolding Agree
    no_square a h n e =
        let i = inverse_in a h n in
        let A = atom 0 in let I = atom 1 in let env = a ∷ i.0 ∷ [] in
        n (sym (element-small o ring a h)
        ∙ same_element o ring (a ∷ []) A (A ⊗ unit) refl
        ∙ ap (λ m. element o (times o a m)) (sym i.1)
        ∙ same_element o ring env (A ⊗ (A ⊗ I)) (A ⊗ A ⊗ I) refl
        ∙ ap (λ m. element o (times o m i.0)) e
        ∙ same_element o ring (i.0 ∷ []) (nought ⊗ A) nought refl
        ∙ element-zero o ring)

    norm_not_zero : (a b : ℕ) → a < o.size → b < o.size → pair o a b ≢ 0 → norm k a b ≢ 0
    unfolding Agree
    norm_not_zero a b p q n e =
        let A = atom 0 in let B = atom 1 in let K = atom 2 in let J = atom 3 in
        ⊎_elim
        (λ b_none.
        let a_some : a ≢ 0 = λ a_none. n (same_pair o ring a_none b_none ∙ pair-none o ring 0) in
        no_square a p a_some
        (identity o ring (a ∷ k ∷ []) (A ⊗ A) (A ⊗ A ⊖ B ⊗ (nought ⊗ nought)) tt tt refl
        ∙ ap (λ m. minus o (times o a a) (times o k (times o m m))) (sym b_none)
        ∙ e))
        (λ b_some.
        let j = inverse_in b q b_some in
        let env = a ∷ b ∷ k ∷ j.0 ∷ [] in
        no_root (times o a j.0) (times_below o ring a j.0)
        (identity o ring env (A ⊗ J ⊗ (A ⊗ J)) ((A ⊗ A ⊖ K ⊗ (B ⊗ B)) ⊗ (J ⊗ J) ⊕ K ⊗ (B ⊗ J ⊗ (B ⊗ J))) tt tt refl
        ∙ ap (λ m. plus o (times o m (times o j.0 j.0)) (times o k (times o (times o b j.0) (times o b j.0)))) e
        ∙ ap (λ m. plus o (times o 0 (times o j.0 j.0)) (times o k (times o m m))) j.1
        ∙ identity o ring env (nought ⊗ (J ⊗ J) ⊕ K ⊗ (unit ⊗ unit)) (K ⊕ nought) tt tt refl
        ∙ plus-zero o ring k))
        (zero_or b)

    pub zero-from_norm : (a b : ℕ) → a < o.size → b < o.size → norm k a b ≡ 0 → pair o a b ≡ 0
    zero-from_norm a b p q e = ⊎_elim (λ none. none) (λ some. absurd (norm_not_zero a b p q some e)) (zero_or (pair o a b))

    quadratic_inverse : (x : ℕ) → x < o.size * o.size → x ≢ 0 → (y : ℕ) × (y < o.size * o.size) × (times (quadratic o k) x y ≡ 1)
    quadratic_inverse x h n =
        let a = low o x in let b = high o x in
        let p = low_below o ring x in let q = high_below o ring x h in
        let i = inverse_in (norm k a b) (plus_below o ring (times o a a) (opposite o (times o k (times o b b)))) (norm_not_zero a b p q (λ e. n (sym (pair-parts o ring x) ∙ e))) in (
          pair o (times o a i.0) (opposite o (times o b i.0)),
          pair_below o ring _ _ (times_below o ring a i.0) (opposite_below o ring (times o b i.0)),
          ap (λ m. times (quadratic o k) m (pair o (times o a i.0) (opposite o (times o b i.0)))) (sym (pair-parts o ring x)) ∙ inverse-pair k a b i.0 p q i.1,
        )

    pub quadratic_field : 16 ≤ o.size * o.size → o.size * o.size ≤ 2 ^ 32 → IsField (quadratic o k)
    unfolding times
    quadratic_field least most = record {
      at_least = least;
      at_most = most;
      ring = quadratic_ring o ring k;
      inverse = λ x h n.
          let r = quadratic_inverse x h n in
          let Q = quadratic o k in
          (r.0, r.1, sym (ap (λ m. Q.raw_times m (r.0 % Q.size)) (mod-eq_of_lt h) ∙ ap (Q.raw_times x) (mod-eq_of_lt r.1)) ∙ r.2);
    }
