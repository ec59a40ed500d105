-- Small rings, fields and representations, by a test of all their numbers.
use Rattle.std.proofs.Common.{◌≡◌, ℕ, zero, suc, ◌<◌, ◌≤◌, ◌^◌, Bool, true, false, ◌&&◌, cond, eqb, ltb, ltb-true, eqb-true, ⊎_elim, inl, inr, ◌⊎◌, subst, refl, arith}
use Rattle.std.proofs.lemmas.Bool.{and_parts, cases_lt}
use Rattle.sc_definitions.specs.Ring.{Ops, IsRing, IsField, IsRingMap, IsRepresentation, plus, times}

-- the test passes at each number below n
unfoldable pub all_below : ℕ → (ℕ → Bool) → Bool
all_below zero p = true
all_below (suc n) p = p n && all_below n p

-- the test passes at some number below n
unfoldable pub some_below : ℕ → (ℕ → Bool) → Bool
some_below zero p = false
some_below (suc n) p = cond (p n) true (some_below n p)

pub all-at : (n : ℕ) (p : ℕ → Bool) → all_below n p ≡ true → (k : ℕ) → k < n → p k ≡ true
unfolding all_below
all-at zero p t k low = absurd (omega arith)
all-at (suc n) p t k low =
    let both : (p n ≡ true) × (all_below n p ≡ true) = and_parts (p n) (all_below n p) t in
    ⊎_elim (λ less. all-at n p both.1 k less)
    (λ top. let same : n ≡ k = omega arith in subst (λ j. p j ≡ true) same both.0)
    (cases_lt k n)

found : (b : Bool) (c : Bool) → cond b true c ≡ true → (b ≡ true) ⊎ (c ≡ true)
found true c h = inl refl
found false c h = inr h

some-at : (n : ℕ) (p : ℕ → Bool) → some_below n p ≡ true → (k : ℕ) × (k < n) × (p k ≡ true)
unfolding some_below
some-at zero p t = cc
some-at (suc n) p t =
    ⊎_elim (λ here. (n, omega arith, here))
    (λ below. let r = some-at n p below in (r.0, omega (arith, r.1), r.2))
    (found (p n) (some_below n p) t)

pub pair-at : (n : ℕ) (p : ℕ → ℕ → Bool) → all_below n (λ x. all_below n (p x)) ≡ true → (x y : ℕ) → x < n → y < n → p x y ≡ true
pair-at n p t x y h k = all-at n (p x) (all-at n (λ a. all_below n (p a)) t x h) y k

triple-at : (n : ℕ) (p : ℕ → ℕ → ℕ → Bool) → all_below n (λ x. all_below n (λ y. all_below n (p x y))) ≡ true →
    (x y z : ℕ) → x < n → y < n → z < n → p x y z ≡ true
triple-at n p t x y z h k l = pair-at n (p x) (all-at n (λ a. all_below n (λ b. all_below n (p a b))) t x h) y z k l

-- 0 and 1, opposites and inverses
one_test : Ops → ℕ → Bool
unfolding some_below
one_test o x =
    ltb (o.raw_opposite x) o.size && (eqb (o.raw_plus x 0) x && (eqb (o.raw_plus x (o.raw_opposite x)) 0 && (eqb (o.raw_times x 1) x
    && cond (eqb x 0) true (some_below o.size (λ y. eqb (o.raw_times x y) 1)))))

-- closed and commutative
two_test : Ops → ℕ → ℕ → Bool
two_test o x y =
    ltb (o.raw_plus x y) o.size && (ltb (o.raw_times x y) o.size && (eqb (o.raw_plus x y) (o.raw_plus y x) && eqb (o.raw_times x y) (o.raw_times y x)))

-- associative and distributive
three_test : Ops → ℕ → ℕ → ℕ → Bool
three_test o x y z =
    eqb (o.raw_plus (o.raw_plus x y) z) (o.raw_plus x (o.raw_plus y z))
    && (eqb (o.raw_times (o.raw_times x y) z) (o.raw_times x (o.raw_times y z))
    && eqb (o.raw_times x (o.raw_plus y z)) (o.raw_plus (o.raw_times x y) (o.raw_times x z)))

-- every law of a field, at every number
unfoldable pub passes : Ops → Bool
unfolding all_below one_test two_test three_test
passes o =
    all_below o.size (one_test o)
    && (all_below o.size (λ x. all_below o.size (two_test o x))
    && all_below o.size (λ x. all_below o.size (λ y. all_below o.size (three_test o x y))))

module _ (o : Ops) (test : passes o ≡ true) where
  parts : (all_below o.size (one_test o) ≡ true) × ((all_below o.size (λ x. all_below o.size (two_test o x)) ≡ true)
      × (all_below o.size (λ x. all_below o.size (λ y. all_below o.size (three_test o x y))) ≡ true))
  unfolding passes
  parts = let a = and_parts (all_below o.size (one_test o)) _ test in
      let b = and_parts (all_below o.size (λ x. all_below o.size (two_test o x))) _ a.1 in (a.0, (b.0, b.1))

  one_parts : (x : ℕ) → x < o.size → (ltb (o.raw_opposite x) o.size ≡ true) × (eqb (o.raw_plus x 0) x ≡ true) × (eqb (o.raw_plus x (o.raw_opposite x)) 0 ≡ true)
      × (eqb (o.raw_times x 1) x ≡ true) × (cond (eqb x 0) true (some_below o.size (λ y. eqb (o.raw_times x y) 1)) ≡ true)
  unfolding one_test
  one_parts x h =
      let E = cond (eqb x 0) true (some_below o.size (λ y. eqb (o.raw_times x y) 1)) in
      let D = eqb (o.raw_times x 1) x in let C = eqb (o.raw_plus x (o.raw_opposite x)) 0 in let B = eqb (o.raw_plus x 0) x in
      let a = and_parts (ltb (o.raw_opposite x) o.size) (B && (C && (D && E))) (all-at o.size (one_test o) parts.0 x h) in
      let b = and_parts B (C && (D && E)) a.1 in let c = and_parts C (D && E) b.1 in let d = and_parts D E c.1 in
      (a.0, b.0, c.0, d.0, d.1)

  two_parts : (x y : ℕ) → x < o.size → y < o.size → (ltb (o.raw_plus x y) o.size ≡ true) × (ltb (o.raw_times x y) o.size ≡ true)
      × (eqb (o.raw_plus x y) (o.raw_plus y x) ≡ true) × (eqb (o.raw_times x y) (o.raw_times y x) ≡ true)
  unfolding two_test
  two_parts x y h k =
      let B = ltb (o.raw_times x y) o.size in let C = eqb (o.raw_plus x y) (o.raw_plus y x) in let D = eqb (o.raw_times x y) (o.raw_times y x) in
      let a = and_parts (ltb (o.raw_plus x y) o.size) (B && (C && D)) (pair-at o.size (two_test o) parts.1.0 x y h k) in
      let b = and_parts B (C && D) a.1 in let c = and_parts C D b.1 in (a.0, b.0, c.0, c.1)

  three_parts : (x y z : ℕ) → x < o.size → y < o.size → z < o.size →
      (eqb (o.raw_plus (o.raw_plus x y) z) (o.raw_plus x (o.raw_plus y z)) ≡ true)
      × (eqb (o.raw_times (o.raw_times x y) z) (o.raw_times x (o.raw_times y z)) ≡ true)
      × (eqb (o.raw_times x (o.raw_plus y z)) (o.raw_plus (o.raw_times x y) (o.raw_times x z)) ≡ true)
  unfolding three_test
  three_parts x y z h k l =
      let B = eqb (o.raw_times (o.raw_times x y) z) (o.raw_times x (o.raw_times y z)) in
      let C = eqb (o.raw_times x (o.raw_plus y z)) (o.raw_plus (o.raw_times x y) (o.raw_times x z)) in
      let a = and_parts (eqb (o.raw_plus (o.raw_plus x y) z) (o.raw_plus x (o.raw_plus y z))) (B && C) (triple-at o.size (three_test o) parts.1.1 x y z h k l) in
      let b = and_parts B C a.1 in (a.0, b.0, b.1)

  tested_ring : 2 ≤ o.size → IsRing o
  tested_ring two_least = record {
    at_least_two = two_least;
    plus_below = λ x y h k. ltb-true _ _ (two_parts x y h k).0;
    times_below = λ x y h k. ltb-true _ _ (two_parts x y h k).1;
    opposite_below = λ x h. ltb-true _ _ (one_parts x h).0;
    plus_zero = λ x h. eqb-true _ _ (one_parts x h).1;
    plus_comm = λ x y h k. eqb-true _ _ (two_parts x y h k).2;
    plus_assoc = λ x y z h k l. eqb-true _ _ (three_parts x y z h k l).0;
    plus_opposite = λ x h. eqb-true _ _ (one_parts x h).2;
    times_one = λ x h. eqb-true _ _ (one_parts x h).3;
    times_comm = λ x y h k. eqb-true _ _ (two_parts x y h k).3;
    times_assoc = λ x y z h k l. eqb-true _ _ (three_parts x y z h k l).1;
    times_plus = λ x y z h k l. eqb-true _ _ (three_parts x y z h k l).2;
  }

  pub tested_field : 16 ≤ o.size → o.size ≤ 2 ^ 32 → IsField o
  tested_field least most = record {
    at_least = least;
    at_most = most;
    ring = tested_ring (omega arith);
    inverse = λ x h n.
        ⊎_elim (λ e. absurd (n (eqb-true x 0 e)))
        (λ e. let r = some-at o.size (λ y. eqb (o.raw_times x y) 1) e in (r.0, r.1, eqb-true _ _ r.2))
        (found (eqb x 0) (some_below o.size (λ y. eqb (o.raw_times x y) 1)) (one_parts x h).4);
  }

-- sums and products kept, at every pair of numbers
kept_test : Ops → Ops → (ℕ → ℕ) → ℕ → ℕ → Bool
unfolding plus times
kept_test a b h x y = eqb (h (plus a x y)) (plus b (h x) (h y)) && eqb (h (times a x y)) (times b (h x) (h y))

-- an image below the size, and back at the number by the other map
back_test : Ops → (ℕ → ℕ) → (ℕ → ℕ) → ℕ → Bool
back_test b h g x = ltb (h x) b.size && eqb (g (h x)) x

-- 0, 1, sums and products kept, and every number back by the other map
unfoldable pub maps_there : Ops → Ops → (ℕ → ℕ) → (ℕ → ℕ) → Bool
unfolding all_below kept_test back_test
maps_there a b h g =
    eqb (h 0) 0 && (eqb (h 1) 1 && (all_below a.size (back_test b h g) && all_below a.size (λ x. all_below a.size (kept_test a b h x))))

module _ (a b : Ops) (h g : ℕ → ℕ) (test : maps_there a b h g ≡ true) where
  map_parts : (eqb (h 0) 0 ≡ true) × (eqb (h 1) 1 ≡ true) × (all_below a.size (back_test b h g) ≡ true)
      × (all_below a.size (λ x. all_below a.size (kept_test a b h x)) ≡ true)
  unfolding maps_there
  map_parts =
      let C = all_below a.size (back_test b h g) in let D = all_below a.size (λ x. all_below a.size (kept_test a b h x)) in
      let p = and_parts (eqb (h 0) 0) (eqb (h 1) 1 && (C && D)) test in
      let q = and_parts (eqb (h 1) 1) (C && D) p.1 in let r = and_parts C D q.1 in (p.0, q.0, r.0, r.1)

  back_parts : (x : ℕ) → x < a.size → (ltb (h x) b.size ≡ true) × (eqb (g (h x)) x ≡ true)
  unfolding back_test
  back_parts x low = and_parts (ltb (h x) b.size) (eqb (g (h x)) x) (all-at a.size (back_test b h g) map_parts.2 x low)

  kept_parts : (x y : ℕ) → x < a.size → y < a.size →
      (eqb (h (plus a x y)) (plus b (h x) (h y)) ≡ true) × (eqb (h (times a x y)) (times b (h x) (h y)) ≡ true)
  unfolding kept_test
  kept_parts x y p q =
      and_parts (eqb (h (plus a x y)) (plus b (h x) (h y))) (eqb (h (times a x y)) (times b (h x) (h y)))
      (pair-at a.size (kept_test a b h) map_parts.3 x y p q)

  tested_map : IsRingMap a b h
  tested_map = record {
    below = λ x low. ltb-true _ _ (back_parts x low).0;
    zero_kept = eqb-true _ _ map_parts.0;
    one_kept = eqb-true _ _ map_parts.1;
    plus_kept = λ x y p q. eqb-true _ _ (kept_parts x y p q).0;
    times_kept = λ x y p q. eqb-true _ _ (kept_parts x y p q).1;
  }

  tested_back : (x : ℕ) → x < a.size → g (h x) ≡ x
  tested_back x low = eqb-true _ _ (back_parts x low).1

pub tested_representation : (a b : Ops) (h g : ℕ → ℕ) → maps_there a b h g ≡ true → maps_there b a g h ≡ true → IsRepresentation a b h g
tested_representation a b h g there back = record {
  forth = tested_map a b h g there;
  back = tested_map b a g h back;
  back_forth = tested_back a b h g there;
  forth_back = tested_back b a g h back;
}
