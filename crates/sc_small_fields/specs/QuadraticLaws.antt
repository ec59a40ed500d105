-- Extensions of degree 2 are rings.
use Rattle.std.proofs.Common.{◌≡◌, ℕ, ◌*◌, ◌%◌, ◌<◌, ◌≤◌, true, ◌&&◌, ◌↔◌, eqb, eqb-true, eq-eqb, [], ◌∷◌, sym, ◌∙◌, ap, refl, arith}
use Rattle.std.proofs.lemmas.Nat.{mod-mul-add, div-mul-add, mul-add-lt, mul-le, div_below}
use Rattle.std.proofs.Math.Nat.{mod-lt, mod-eq_of_lt, div-eq_of_lt, div-add-mod'}
use Rattle.std.proofs.lemmas.Bool.{and_parts}
use Rattle.sc_definitions.specs.Ring.{Ops, IsRing, plus, times, opposite, minus}
use Rattle.sc_definitions.specs.Quadratic.{pair, low, high, quadratic}
use Rattle.sc_definitions.proofs.RingLaws.{plus_below, opposite_below, size_pos, plus-zero, plus_comm, plus-opposite, element-small}
use Rattle.sc_definitions.proofs.Identity.{atom, nought, unit, ◌⊕◌, ◌⊗◌, Agree, identity}

module _ (o : Ops) (ring : IsRing o) where
  pub low-pair : (a b : ℕ) → a < o.size → low o (pair o a b) ≡ a
  unfolding low pair
  low-pair a b h = mod-mul-add b o.size a h

  pub high-pair : (a b : ℕ) → a < o.size → high o (pair o a b) ≡ b
  unfolding high pair
  high-pair a b h = div-mul-add b o.size a h

  pub pair-parts : (x : ℕ) → pair o (low o x) (high o x) ≡ x
  unfolding pair low high
  pair-parts x = div-add-mod' x o.size

  pub pair_below : (a b : ℕ) → a < o.size → b < o.size → pair o a b < o.size * o.size
  unfolding pair
  pair_below a b p q = mul-add-lt b o.size a o.size q p

  pub low_below : (x : ℕ) → low o x < o.size
  unfolding low
  low_below x = mod-lt x (size_pos o ring)

  pub high_below : (x : ℕ) → x < o.size * o.size → high o x < o.size
  unfolding high
  high_below x h = div_below x o.size o.size (size_pos o ring) h

  -- a number below the size is its own first part
  low-small : (x : ℕ) → x < o.size → low o x ≡ x
  unfolding low
  low-small x h = mod-eq_of_lt h

  high-small : (x : ℕ) → x < o.size → high o x ≡ 0
  unfolding high
  high-small x h = div-eq_of_lt h

  pub pair-none : (a : ℕ) → pair o a 0 ≡ a
  unfolding pair
  pair-none a = omega arith

  -- two elements with equal parts
  pub same_pair : {a b c d : ℕ} → a ≡ c → b ≡ d → pair o a b ≡ pair o c d
  same_pair {a} {b} {c} {d} e f = ap (λ n. pair o n b) e ∙ ap (pair o c) f

  pub pair_iff : (a b c d : ℕ) → a < o.size → c < o.size → ((eqb a c && eqb b d) ≡ true) ↔ (pair o a b ≡ pair o c d)
  pair_iff a b c d p q = (
    λ t. let both = and_parts (eqb a c) (eqb b d) t in same_pair (eqb-true a c both.0) (eqb-true b d both.1),
    λ e.
        let first : a ≡ c = sym (low-pair a b p) ∙ ap (low o) e ∙ low-pair c d q in
        let second : b ≡ d = sym (high-pair a b p) ∙ ap (high o) e ∙ high-pair c d q in
        ap (λ t. t && eqb b d) (eq-eqb a c first) ∙ eq-eqb b d second,
  )

  module _ (k : ℕ) where
    low_times : ℕ → ℕ → ℕ → ℕ → ℕ
    low_times a b c d = plus o (times o a c) (times o k (times o b d))

    high_times : ℕ → ℕ → ℕ → ℕ → ℕ
    high_times a b c d = plus o (times o a d) (times o b c)

    T : ℕ → ℕ → ℕ
    T x y = (quadratic o k).raw_times x y

    P : ℕ → ℕ → ℕ
    P x y = (quadratic o k).raw_plus x y

    low-T : (x y : ℕ) → low o (T x y) ≡ low_times (low o x) (high o x) (low o y) (high o y)
    unfolding T low_times
    low-T x y = low-pair _ _ (plus_below o ring _ _)

    high-T : (x y : ℕ) → high o (T x y) ≡ high_times (low o x) (high o x) (low o y) (high o y)
    unfolding T high_times
    high-T x y = high-pair _ _ (plus_below o ring _ _)

    low-P : (x y : ℕ) → low o (P x y) ≡ plus o (low o x) (low o y)
    unfolding P
    low-P x y = low-pair _ _ (plus_below o ring _ _)

    high-P : (x y : ℕ) → high o (P x y) ≡ plus o (high o x) (high o y)
    unfolding P
    high-P x y = high-pair _ _ (plus_below o ring _ _)

    T-parts : (x y : ℕ) → T x y ≡ pair o (low_times (low o x) (high o x) (low o y) (high o y)) (high_times (low o x) (high o x) (low o y) (high o y))
    unfolding T low_times high_times
    T-parts x y = refl

    P-parts : (x y : ℕ) → P x y ≡ pair o (plus o (low o x) (low o y)) (plus o (high o x) (high o y))
    unfolding P
    P-parts x y = refl

    T_assoc : (x y z : ℕ) → T (T x y) z ≡ T x (T y z)
    unfolding low_times high_times Agree
    T_assoc x y z =
        let a = low o x in let b = high o x in let c = low o y in let d = high o y in let e = low o z in let f = high o z in
        let A = atom 0 in let B = atom 1 in let C = atom 2 in let D = atom 3 in let E = atom 4 in let F = atom 5 in let K = atom 6 in
        let env = a ∷ b ∷ c ∷ d ∷ e ∷ f ∷ k ∷ [] in
        let L = A ⊗ C ⊕ K ⊗ (B ⊗ D) in let H = A ⊗ D ⊕ B ⊗ C in
        let L' = C ⊗ E ⊕ K ⊗ (D ⊗ F) in let H' = C ⊗ F ⊕ D ⊗ E in
        T-parts (T x y) z
        ∙ ap (λ n. pair o (low_times n (high o (T x y)) e f) (high_times n (high o (T x y)) e f)) (low-T x y)
        ∙ ap (λ n. pair o (low_times (low_times a b c d) n e f) (high_times (low_times a b c d) n e f)) (high-T x y)
        ∙ same_pair
        (identity o ring env (L ⊗ E ⊕ K ⊗ (H ⊗ F)) (A ⊗ L' ⊕ K ⊗ (B ⊗ H')) tt tt refl)
        (identity o ring env (L ⊗ F ⊕ H ⊗ E) (A ⊗ H' ⊕ B ⊗ L') tt tt refl)
        ∙ sym (T-parts x (T y z)
        ∙ ap (λ n. pair o (low_times a b n (high o (T y z))) (high_times a b n (high o (T y z)))) (low-T y z)
        ∙ ap (λ n. pair o (low_times a b (low_times c d e f) n) (high_times a b (low_times c d e f) n)) (high-T y z))

    T_plus : (x y z : ℕ) → T x (P y z) ≡ P (T x y) (T x z)
    unfolding low_times high_times P Agree
    T_plus x y z =
        let a = low o x in let b = high o x in let c = low o y in let d = high o y in let e = low o z in let f = high o z in
        let A = atom 0 in let B = atom 1 in let C = atom 2 in let D = atom 3 in let E = atom 4 in let F = atom 5 in let K = atom 6 in
        let env = a ∷ b ∷ c ∷ d ∷ e ∷ f ∷ k ∷ [] in
        T-parts x (P y z)
        ∙ ap (λ n. pair o (low_times a b n (high o (P y z))) (high_times a b n (high o (P y z)))) (low-P y z)
        ∙ ap (λ n. pair o (low_times a b (plus o c e) n) (high_times a b (plus o c e) n)) (high-P y z)
        ∙ same_pair
        (identity o ring env (A ⊗ (C ⊕ E) ⊕ K ⊗ (B ⊗ (D ⊕ F))) ((A ⊗ C ⊕ K ⊗ (B ⊗ D)) ⊕ (A ⊗ E ⊕ K ⊗ (B ⊗ F))) tt tt refl)
        (identity o ring env (A ⊗ (D ⊕ F) ⊕ B ⊗ (C ⊕ E)) ((A ⊗ D ⊕ B ⊗ C) ⊕ (A ⊗ F ⊕ B ⊗ E)) tt tt refl)
        ∙ sym (same_pair (ap (λ n. plus o n (low o (T x z))) (low-T x y) ∙ ap (plus o (low_times a b c d)) (low-T x z))
        (ap (λ n. plus o n (high o (T x z))) (high-T x y) ∙ ap (plus o (high_times a b c d)) (high-T x z)))

    P_assoc : (x y z : ℕ) → P (P x y) z ≡ P x (P y z)
    unfolding Agree
    P_assoc x y z =
        let A = atom 0 in let B = atom 1 in let C = atom 2 in
        P-parts (P x y) z
        ∙ same_pair
        (ap (λ n. plus o n (low o z)) (low-P x y)
        ∙ identity o ring (low o x ∷ low o y ∷ low o z ∷ []) (A ⊕ B ⊕ C) (A ⊕ (B ⊕ C)) tt tt refl
        ∙ sym (ap (plus o (low o x)) (low-P y z)))
        (ap (λ n. plus o n (high o z)) (high-P x y)
        ∙ identity o ring (high o x ∷ high o y ∷ high o z ∷ []) (A ⊕ B ⊕ C) (A ⊕ (B ⊕ C)) tt tt refl
        ∙ sym (ap (plus o (high o x)) (high-P y z)))
        ∙ sym (P-parts x (P y z))

    plus-none : (x : ℕ) → x < o.size → plus o x 0 ≡ x
    plus-none x h = plus-zero o ring x ∙ element-small o ring x h

    P_zero : (x : ℕ) → x < o.size * o.size → P x 0 ≡ x
    P_zero x h =
        P-parts x 0
        ∙ same_pair
        (ap (plus o (low o x)) (low-small 0 (size_pos o ring)) ∙ plus-none (low o x) (low_below x))
        (ap (plus o (high o x)) (high-small 0 (size_pos o ring)) ∙ plus-none (high o x) (high_below x h))
        ∙ pair-parts x

    T_one : (x : ℕ) → x < o.size * o.size → T x 1 ≡ x
    unfolding low_times high_times Agree
    T_one x h =
        let a = low o x in let b = high o x in
        let one_low : 1 < o.size = omega (arith, ring.at_least_two) in
        let A = atom 0 in let B = atom 1 in let K = atom 2 in
        let env = a ∷ b ∷ k ∷ [] in
        T-parts x 1
        ∙ ap (λ n. pair o (low_times a b n (high o 1)) (high_times a b n (high o 1))) (low-small 1 one_low)
        ∙ ap (λ n. pair o (low_times a b 1 n) (high_times a b 1 n)) (high-small 1 one_low)
        ∙ same_pair
        (identity o ring env (A ⊗ unit ⊕ K ⊗ (B ⊗ nought)) (A ⊕ nought) tt tt refl ∙ plus-none a (low_below x))
        (identity o ring env (A ⊗ nought ⊕ B ⊗ unit) (B ⊕ nought) tt tt refl ∙ plus-none b (high_below x h))
        ∙ pair-parts x

    T_comm : (x y : ℕ) → T x y ≡ T y x
    unfolding low_times high_times Agree
    T_comm x y =
        let A = atom 0 in let B = atom 1 in let C = atom 2 in let D = atom 3 in let K = atom 4 in
        let env = low o x ∷ high o x ∷ low o y ∷ high o y ∷ k ∷ [] in
        T-parts x y
        ∙ same_pair
        (identity o ring env (A ⊗ C ⊕ K ⊗ (B ⊗ D)) (C ⊗ A ⊕ K ⊗ (D ⊗ B)) tt tt refl)
        (identity o ring env (A ⊗ D ⊕ B ⊗ C) (C ⊗ B ⊕ D ⊗ A) tt tt refl)
        ∙ sym (T-parts y x)

    N : ℕ → ℕ
    N x = (quadratic o k).raw_opposite x

    low-N : (x : ℕ) → low o (N x) ≡ opposite o (low o x)
    unfolding N
    low-N x = low-pair _ _ (opposite_below o ring _)

    high-N : (x : ℕ) → high o (N x) ≡ opposite o (high o x)
    unfolding N
    high-N x = high-pair _ _ (opposite_below o ring _)

    P_opposite : (x : ℕ) → P x (N x) ≡ 0
    P_opposite x =
        P-parts x (N x)
        ∙ same_pair
        (ap (plus o (low o x)) (low-N x) ∙ plus-opposite o ring (low o x))
        (ap (plus o (high o x)) (high-N x) ∙ plus-opposite o ring (high o x))
        ∙ pair-none 0

    size_least : 2 ≤ o.size * o.size
    size_least = let least : 1 * 2 ≤ o.size * o.size = mul-le 1 2 o.size o.size (omega (arith, ring.at_least_two)) ring.at_least_two in omega arith

    pub quadratic_ring : IsRing (quadratic o k)
    unfolding T P N
    quadratic_ring = record {
      at_least_two = size_least;
      plus_below = λ x y _ _. pair_below _ _ (plus_below o ring _ _) (plus_below o ring _ _);
      times_below = λ x y _ _. pair_below _ _ (plus_below o ring _ _) (plus_below o ring _ _);
      opposite_below = λ x _. pair_below _ _ (opposite_below o ring _) (opposite_below o ring _);
      plus_zero = P_zero;
      plus_comm = λ x y _ _. same_pair (plus_comm o ring _ _) (plus_comm o ring _ _);
      plus_assoc = λ x y z _ _ _. P_assoc x y z;
      plus_opposite = λ x _. P_opposite x;
      times_one = T_one;
      times_comm = λ x y _ _. T_comm x y;
      times_assoc = λ x y z _ _ _. T_assoc x y z;
      times_plus = λ x y z _ _ _. T_plus x y z;
    }

    -- the operations on elements that are given by their parts
    module _ (a b c d : ℕ) (a_low : a < o.size) (b_low : b < o.size) (c_low : c < o.size) (d_low : d < o.size) where
      small_first : pair o a b % (o.size * o.size) ≡ pair o a b
      small_first = mod-eq_of_lt (pair_below a b a_low b_low)

      small_second : pair o c d % (o.size * o.size) ≡ pair o c d
      small_second = mod-eq_of_lt (pair_below c d c_low d_low)

      pub plus-pairs : plus (quadratic o k) (pair o a b) (pair o c d) ≡ pair o (plus o a c) (plus o b d)
      unfolding plus P
      plus-pairs =
          ap (λ n. P n (pair o c d % (o.size * o.size))) small_first
          ∙ ap (P (pair o a b)) small_second
          ∙ P-parts (pair o a b) (pair o c d)
          ∙ same_pair
          (ap (λ n. plus o n (low o (pair o c d))) (low-pair a b a_low) ∙ ap (plus o a) (low-pair c d c_low))
          (ap (λ n. plus o n (high o (pair o c d))) (high-pair a b a_low) ∙ ap (plus o b) (high-pair c d c_low))

      pub times-pairs : times (quadratic o k) (pair o a b) (pair o c d)
          ≡ pair o (plus o (times o a c) (times o k (times o b d))) (plus o (times o a d) (times o b c))
      unfolding times T low_times high_times
      times-pairs =
          let x = pair o a b in let y = pair o c d in
          ap (λ n. T n (y % (o.size * o.size))) small_first
          ∙ ap (T x) small_second
          ∙ T-parts x y
          ∙ ap (λ n. pair o (low_times n (high o x) (low o y) (high o y)) (high_times n (high o x) (low o y) (high o y))) (low-pair a b a_low)
          ∙ ap (λ n. pair o (low_times a n (low o y) (high o y)) (high_times a n (low o y) (high o y))) (high-pair a b a_low)
          ∙ ap (λ n. pair o (low_times a b n (high o y)) (high_times a b n (high o y))) (low-pair c d c_low)
          ∙ ap (λ n. pair o (low_times a b c n) (high_times a b c n)) (high-pair c d c_low)

    pub opposite-pair : (a b : ℕ) → a < o.size → b < o.size → opposite (quadratic o k) (pair o a b) ≡ pair o (opposite o a) (opposite o b)
    unfolding opposite
    opposite-pair a b p q =
        ap (λ n. pair o (o.raw_opposite (low o n % o.size)) (o.raw_opposite (high o n % o.size))) (mod-eq_of_lt (pair_below a b p q))
        ∙ same_pair (ap (λ n. o.raw_opposite (n % o.size)) (low-pair a b p)) (ap (λ n. o.raw_opposite (n % o.size)) (high-pair a b p))

    pub minus-pairs : (a b c d : ℕ) → a < o.size → b < o.size → c < o.size → d < o.size →
        minus (quadratic o k) (pair o a b) (pair o c d) ≡ pair o (minus o a c) (minus o b d)
    minus-pairs a b c d p q r s =
        ap (plus (quadratic o k) (pair o a b)) (opposite-pair c d r s)
        ∙ plus-pairs a b (opposite o c) (opposite o d) p q (opposite_below o ring c) (opposite_below o ring d)

    -- a times a pair with no second part
    pub times-pair_first : (a b c : ℕ) → a < o.size → b < o.size → c < o.size → times (quadratic o k) (pair o a b) c ≡ pair o (times o a c) (times o b c)
    unfolding Agree
    times-pair_first a b c p q r =
        let A = atom 0 in let B = atom 1 in let C = atom 2 in let K = atom 3 in
        let env = a ∷ b ∷ c ∷ k ∷ [] in
        ap (times (quadratic o k) (pair o a b)) (sym (pair-none c))
        ∙ times-pairs a b c 0 p q r (size_pos o ring)
        ∙ same_pair
        (identity o ring env (A ⊗ C ⊕ K ⊗ (B ⊗ nought)) (A ⊗ C) tt tt refl)
        (identity o ring env (A ⊗ nought ⊕ B ⊗ C) (B ⊗ C) tt tt refl)
