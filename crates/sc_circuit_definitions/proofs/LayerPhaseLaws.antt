-- The rounds of a layer are those of its two phases.
use Rattle.std.proofs.Common.{◌≡◌, ℕ, suc, ◌+◌, ◌*◌, ◌^◌, ◌<◌, List, [], ◌∷◌, ◌++◌, length, take, drop, sym, ◌∙◌, ap, refl, arith, append_assoc, length-append, pow-add}
use Rattle.std.proofs.Math.Seq.{drop-append_seam, take-append_seam}
use Rattle.sc_definitions.specs.Ring.{Ops, IsRing, element, plus, times}
use Rattle.sc_definitions.specs.Tables.{evaluation, prefix, sum_below, value, digits, equality_weight, folded_in, folded_by}
use Rattle.sc_definitions.specs.Rounds.{partial_value}
use Rattle.sc_definitions.specs.Polynomials.{poly_at}
use Rattle.sc_definitions.proofs.PlacedLaws.{partial_value-folded_by, folded_by-append}
use Rattle.sc_definitions.proofs.RingLaws.{times-element_left, times-element_right, plus-element_right}
use Rattle.sc_definitions.proofs.Sums.{sum-same, sum-plus}
use Rattle.sc_definitions.proofs.BlockLaws.{sum-blocks, sum-times, equality_weight-append}
use Rattle.sc_definitions.proofs.TableLaws.{length-digits, value-digits}
use Rattle.sc_definitions.proofs.ValueLaws.{element-value}
use Rattle.sc_definitions.proofs.Identity.{atom, ◌⊕◌, ◌⊗◌, Agree, identity}
use Rattle.sc_soundness.proofs.PowerLaws.{sum-swap}
use Rattle.sc_circuit_definitions.specs.LayerRounds.{LayerTables, layer_sum, layer_at, layer_claim, layer_round}
use Rattle.sc_circuit_definitions.specs.LayerPhases.{Phase, phase_at, phase_claim, row_sum, bound_phase, phase_at_next, first_factor, first_rest, first_phase, row_at, second_factor, second_rest, second_phase, PhasesMakeRounds}
use Rattle.sc_circuit_definitions.proofs.LayerRoundLaws.{round-at}
use Rattle.sc_circuit_definitions.proofs.LayerTruthLaws.{digits-append}

module _ (o : Ops) (ring : IsRing o) where
  -- ---- values at points of two parts

  -- the value at a point whose second part is a second one's digits, or any point: the value at the first part of the values at the second
  value-parts : (f : ℕ → ℕ) (xs ys : List ℕ) →
      value o f (xs ++ ys) ≡ value o (λ y. value o (λ x. f (x * 2 ^ length ys + y)) xs) ys
  unfolding value Agree
  value-parts f xs ys =
      let P = 2 ^ length xs in
      let Q = 2 ^ length ys in
      let size : 2 ^ length (xs ++ ys) ≡ P * Q = ap (λ n. 2 ^ n) (length-append xs ys) ∙ pow-add 2 (length xs) (length ys) in
      let A = atom 0 in let B = atom 1 in let C = atom 2 in
      ap (λ n. sum_below o n (λ b. times o (f b) (equality_weight o (xs ++ ys) b))) size
      ∙ sum-blocks o ring P Q (λ b. times o (f b) (equality_weight o (xs ++ ys) b))
      ∙ sum-same o P _ _ (λ x lx. sum-same o Q _ _ (λ y ly.
      ap (times o (f (x * Q + y))) (equality_weight-append o ring xs ys x y lx ly)
      ∙ identity o ring (f (x * Q + y) ∷ equality_weight o xs x ∷ equality_weight o ys y ∷ []) (A ⊗ (B ⊗ C)) ((A ⊗ B) ⊗ C) tt tt refl))
      ∙ sum-swap o ring P Q (λ x y. times o (times o (f (x * Q + y)) (equality_weight o xs x)) (equality_weight o ys y))
      ∙ sum-same o Q _ _ (λ y _. sym (sum-times o ring P (equality_weight o ys y) (λ x. times o (f (x * Q + y)) (equality_weight o xs x))))

  -- a sum of tables has the sum of their values, and so has one times a number
  value-sums : (n : ℕ) (f : ℕ → ℕ → ℕ) (zs : List ℕ) → value o (λ x. sum_below o n (λ y. f x y)) zs ≡ sum_below o n (λ y. value o (λ x. f x y) zs)
  unfolding value
  value-sums n f zs =
      sum-same o (2 ^ length zs) _ _ (λ x _. sum-times o ring n (equality_weight o zs x) (f x))
      ∙ sum-swap o ring (2 ^ length zs) n (λ x y. times o (f x y) (equality_weight o zs x))

  value-line : (f g : ℕ → ℕ) (c : ℕ) (zs : List ℕ) → value o (λ x. plus o (f x) (times o (g x) c)) zs ≡ plus o (value o f zs) (times o (value o g zs) c)
  unfolding value Agree
  value-line f g c zs =
      let N = 2 ^ length zs in
      let A = atom 0 in let B = atom 1 in let C = atom 2 in let W = atom 3 in
      sum-same o N _ _ (λ x _. identity o ring (f x ∷ g x ∷ c ∷ equality_weight o zs x ∷ []) ((A ⊕ B ⊗ C) ⊗ W) (A ⊗ W ⊕ (B ⊗ W) ⊗ C) tt tt refl)
      ∙ sym (sum-plus o ring N (λ x. times o (f x) (equality_weight o zs x)) (λ x. times o (times o (g x) (equality_weight o zs x)) c))
      ∙ ap (plus o (sum_below o N (λ x. times o (f x) (equality_weight o zs x)))) (sym (sum-times o ring N c (λ x. times o (g x) (equality_weight o zs x))))

  value-scaled : (g : ℕ → ℕ) (c : ℕ) (zs : List ℕ) → value o (λ x. times o (g x) c) zs ≡ times o (value o g zs) c
  unfolding value Agree
  value-scaled g c zs =
      let N = 2 ^ length zs in
      let B = atom 0 in let C = atom 1 in let W = atom 2 in
      sum-same o N _ _ (λ x _. identity o ring (g x ∷ c ∷ equality_weight o zs x ∷ []) ((B ⊗ C) ⊗ W) ((B ⊗ W) ⊗ C) tt tt refl)
      ∙ sym (sum-times o ring N c (λ x. times o (g x) (equality_weight o zs x)))

  module _ (t : LayerTables) where
    -- the halves of a point of two of them
    halves : (xs ys : List ℕ) → length xs ≡ t.variables → layer_at o t (xs ++ ys) ≡ layer_sum o t (xs ++ ys) (value o t.below xs) (value o t.below ys)
    unfolding layer_at
    halves xs ys size =
        ap (λ n. layer_sum o t (xs ++ ys) (value o t.below (take n (xs ++ ys))) (value o t.below (drop n (xs ++ ys)))) (sym size)
        ∙ ap (λ l. layer_sum o t (xs ++ ys) (value o t.below l) (value o t.below (drop (length xs) (xs ++ ys)))) (take-append_seam xs ys)
        ∙ ap (λ l. layer_sum o t (xs ++ ys) (value o t.below xs) (value o t.below l)) (drop-append_seam xs ys)

    -- ---- the second places

    second-at : (us ys : List ℕ) → length us ≡ t.variables → length ys ≡ t.variables → layer_at o t (us ++ ys) ≡ phase_at o (second_phase o t us) ys
    unfolding layer_sum phase_at second_factor second_rest row_at Agree
    second-at us ys size second =
        let k = t.variables in
        let V = value o t.below us in
        let v = value o t.below ys in
        let s : ℕ → ℕ = λ y. value o (λ x. t.sums (x * 2 ^ k + y)) us in
        let p : ℕ → ℕ = λ y. value o (λ x. t.products (x * 2 ^ k + y)) us in
        let S = value o s ys in
        let P = value o p ys in
        let sums : value o t.sums (us ++ ys) ≡ S = value-parts t.sums us ys ∙ ap (λ n. value o (λ y. value o (λ x. t.sums (x * 2 ^ n + y)) us) ys) second in
        let products : value o t.products (us ++ ys) ≡ P = value-parts t.products us ys ∙ ap (λ n. value o (λ y. value o (λ x. t.products (x * 2 ^ n + y)) us) ys) second in
        halves us ys size
        ∙ ap (λ n. plus o (times o n (plus o V v)) (times o (value o t.products (us ++ ys)) (times o V v))) sums
        ∙ ap (λ n. plus o (times o S (plus o V v)) (times o n (times o V v))) products
        ∙ identity o ring (S ∷ P ∷ V ∷ v ∷ []) (atom 0 ⊗ (atom 2 ⊕ atom 3) ⊕ atom 1 ⊗ (atom 2 ⊗ atom 3)) ((atom 0 ⊕ atom 1 ⊗ atom 2) ⊗ atom 3 ⊕ atom 0 ⊗ atom 2) tt tt refl
        ∙ ap (λ n. plus o (times o n v) (times o S V)) (sym (value-line s p V ys))
        ∙ ap (plus o (times o (value o (λ y. plus o (s y) (times o (p y) V)) ys) v)) (sym (value-scaled s V ys))

    pub second-claim : (us rs : List ℕ) (m : ℕ) → length us ≡ t.variables → length rs + m ≡ t.variables → layer_claim o t (us ++ rs) m ≡ phase_claim o (second_phase o t us) rs m
    unfolding layer_claim phase_claim
    second-claim us rs m size whole =
        sum-same o (2 ^ m) _ _ (λ b _.
        ap (layer_at o t) (append_assoc us rs (digits m b))
        ∙ second-at us (rs ++ digits m b) size (length-append rs (digits m b) ∙ ap (λ n. length rs + n) (length-digits o ring m b) ∙ whole))

    -- ---- the first places

    first-row : (xs : List ℕ) (y : ℕ) → length xs ≡ t.variables → y < 2 ^ t.variables →
        let s = value o (λ x. t.sums (x * 2 ^ t.variables + y)) xs in
        let p = value o (λ x. t.products (x * 2 ^ t.variables + y)) xs in
        layer_at o t (xs ++ digits t.variables y) ≡ plus o (times o (plus o s (times o p (t.below y))) (value o t.below xs)) (times o s (t.below y))
    unfolding layer_sum Agree
    first-row xs y size low =
        let k = t.variables in
        let V = value o t.below xs in
        let v = t.below y in
        let s : ℕ → ℕ = λ y. value o (λ x. t.sums (x * 2 ^ k + y)) xs in
        let p : ℕ → ℕ = λ y. value o (λ x. t.products (x * 2 ^ k + y)) xs in
        let at : (f : ℕ → ℕ) → value o f (xs ++ digits k y) ≡ value o (λ x. f (x * 2 ^ k + y)) xs =
        λ f. value-parts f xs (digits k y)
        ∙ ap (λ n. value o (λ z. value o (λ x. f (x * 2 ^ n + z)) xs) (digits k y)) (length-digits o ring k y)
        ∙ value-digits o ring (λ z. value o (λ x. f (x * 2 ^ k + z)) xs) k y low
        ∙ element-value o ring (λ x. f (x * 2 ^ k + y)) xs in
        halves xs (digits k y) size
        ∙ ap (λ n. plus o (times o n (plus o V (value o t.below (digits k y)))) (times o (value o t.products (xs ++ digits k y)) (times o V (value o t.below (digits k y))))) (at t.sums)
        ∙ ap (λ n. plus o (times o (s y) (plus o V (value o t.below (digits k y)))) (times o n (times o V (value o t.below (digits k y))))) (at t.products)
        ∙ ap (λ n. plus o (times o (s y) (plus o V n)) (times o (p y) (times o V n))) (value-digits o ring t.below k y low)
        ∙ identity o ring (s y ∷ p y ∷ V ∷ element o v ∷ []) (atom 0 ⊗ (atom 2 ⊕ atom 3) ⊕ atom 1 ⊗ (atom 2 ⊗ atom 3)) ((atom 0 ⊕ atom 1 ⊗ atom 3) ⊗ atom 2 ⊕ atom 0 ⊗ atom 3) tt tt refl
        ∙ ap (λ n. plus o (times o (plus o (s y) n) V) (times o (s y) (element o v))) (times-element_right o ring (p y) v)
        ∙ ap (plus o (times o (plus o (s y) (times o (p y) v)) V)) (times-element_right o ring (s y) v)

    first-at : (xs : List ℕ) → length xs ≡ t.variables → sum_below o (2 ^ t.variables) (λ y. layer_at o t (xs ++ digits t.variables y)) ≡ phase_at o (first_phase o t) xs
    unfolding phase_at first_factor first_rest
    first-at xs size =
        let k = t.variables in
        let K = 2 ^ k in
        let V = value o t.below xs in
        let s : ℕ → ℕ = λ y. value o (λ x. t.sums (x * K + y)) xs in
        let p : ℕ → ℕ = λ y. value o (λ x. t.products (x * K + y)) xs in
        sum-same o K _ _ (λ y low. first-row xs y size low)
        ∙ sym (sum-plus o ring K (λ y. times o (plus o (s y) (times o (p y) (t.below y))) V) (λ y. times o (s y) (t.below y)))
        ∙ ap (λ n. plus o n (sum_below o K (λ y. times o (s y) (t.below y)))) (sym (sum-times o ring K V (λ y. plus o (s y) (times o (p y) (t.below y)))))
        ∙ ap (λ n. plus o (times o n V) (sum_below o K (λ y. times o (s y) (t.below y))))
        (sum-same o K _ _ (λ y _. sym (value-line (λ x. t.sums (x * K + y)) (λ x. t.products (x * K + y)) (t.below y) xs))
        ∙ sym (value-sums K (λ x y. plus o (t.sums (x * K + y)) (times o (t.products (x * K + y)) (t.below y))) xs))
        ∙ ap (plus o (times o (value o (λ x. sum_below o K (λ y. plus o (t.sums (x * K + y)) (times o (t.products (x * K + y)) (t.below y)))) xs) V))
        (sum-same o K _ _ (λ y _. sym (value-scaled (λ x. t.sums (x * K + y)) (t.below y) xs))
        ∙ sym (value-sums K (λ x y. times o (t.sums (x * K + y)) (t.below y)) xs))

    pub first-claim : (rs : List ℕ) (m : ℕ) → length rs + m ≡ t.variables → layer_claim o t rs (m + t.variables) ≡ phase_claim o (first_phase o t) rs m
    unfolding layer_claim phase_claim
    first-claim rs m whole =
        let k = t.variables in
        ap (λ n. sum_below o n (λ b. layer_at o t (rs ++ digits (m + k) b))) (pow-add 2 m k)
        ∙ sum-blocks o ring (2 ^ m) (2 ^ k) (λ b. layer_at o t (rs ++ digits (m + k) b))
        ∙ sum-same o (2 ^ m) _ _ (λ a la.
        sum-same o (2 ^ k) _ _ (λ y ly. ap (λ l. layer_at o t (rs ++ l)) (digits-append m k a y la ly) ∙ ap (layer_at o t) (sym (append_assoc rs (digits m a) (digits k y))))
        ∙ first-at (rs ++ digits m a) (length-append rs (digits m a) ∙ ap (λ n. length rs + n) (length-digits o ring m a) ∙ whole))

  -- ---- the tables as they stand

  -- a phase's true claim is the sum over the rows of its bound tables
  pub phase-rows : (p : Phase) (rs : List ℕ) (m : ℕ) → phase_claim o p rs m ≡ sum_below o (2 ^ m) (row_sum o (bound_phase o rs m p))
  unfolding phase_claim phase_at row_sum partial_value
  phase-rows p rs m =
      sum-same o (2 ^ m) _ _ (λ b low.
      let F = folded_by evaluation prefix o rs m p.factors b in
      let V = folded_by evaluation prefix o rs m p.values b in
      let R = folded_by evaluation prefix o rs m p.rests b in
      let at : (f : ℕ → ℕ) → value o f (rs ++ digits m b) ≡ element o (folded_by evaluation prefix o rs m f b) = λ f. partial_value-folded_by o ring evaluation prefix f rs m b low in
      ap (λ n. plus o (times o n (value o p.values (rs ++ digits m b))) (value o p.rests (rs ++ digits m b))) (at p.factors)
      ∙ ap (λ n. plus o (times o (element o F) n) (value o p.rests (rs ++ digits m b))) (at p.values)
      ∙ ap (plus o (times o (element o F) (element o V))) (at p.rests)
      ∙ ap (λ n. plus o n (element o R)) (times-element_left o ring F (element o V) ∙ times-element_right o ring F V)
      ∙ plus-element_right o ring (times o F V) R)

  -- with one challenge more they are those with the next variable bound
  pub phase-more : (p : Phase) (rs : List ℕ) (x m : ℕ) → bound_phase o (rs ++ x ∷ []) m p ≡ phase_at_next o m x (bound_phase o rs (suc m) p)
  phase-more p rs x m =
      let more : (f : ℕ → ℕ) → folded_by evaluation prefix o (rs ++ x ∷ []) m f ≡ folded_in evaluation prefix o m x (folded_by evaluation prefix o rs (suc m) f) =
      λ f. folded_by-append evaluation prefix o rs x m f in
      ap (λ v. record {
        values = v;
        factors = folded_by evaluation prefix o (rs ++ x ∷ []) m p.factors;
        rests = folded_by evaluation prefix o (rs ++ x ∷ []) m p.rests;
      }) (more p.values)
      ∙ ap (λ f. record {
        values = folded_in evaluation prefix o m x (folded_by evaluation prefix o rs (suc m) p.values);
        factors = f;
        rests = folded_by evaluation prefix o (rs ++ x ∷ []) m p.rests;
      }) (more p.factors)
      ∙ ap (λ r. record {
        values = folded_in evaluation prefix o m x (folded_by evaluation prefix o rs (suc m) p.values);
        factors = folded_in evaluation prefix o m x (folded_by evaluation prefix o rs (suc m) p.factors);
        rests = r;
      }) (more p.rests)

  module _ (t : LayerTables) where
    -- what a round sends for a node x, in the first half and in the second
    pub first-node : (rs : List ℕ) (m x : ℕ) → length rs + suc m ≡ t.variables →
        poly_at o (layer_round o t rs (m + t.variables)) x ≡ sum_below o (2 ^ m) (row_sum o (phase_at_next o m x (bound_phase o rs (suc m) (first_phase o t))))
    first-node rs m x whole =
        let more : length (rs ++ x ∷ []) + m ≡ t.variables = ap (λ n. n + m) (length-append rs (x ∷ [])) ∙ omega (arith, whole) in
        round-at o ring t rs (m + t.variables) x ∙ first-claim t (rs ++ x ∷ []) m more ∙ phase-rows (first_phase o t) (rs ++ x ∷ []) m
        ∙ ap (λ p. sum_below o (2 ^ m) (row_sum o p)) (phase-more (first_phase o t) rs x m)

    pub second-node : (us rs : List ℕ) (m x : ℕ) → length us ≡ t.variables → length rs + suc m ≡ t.variables →
        poly_at o (layer_round o t (us ++ rs) m) x ≡ sum_below o (2 ^ m) (row_sum o (phase_at_next o m x (bound_phase o rs (suc m) (second_phase o t us))))
    second-node us rs m x size whole =
        let more : length (rs ++ x ∷ []) + m ≡ t.variables = ap (λ n. n + m) (length-append rs (x ∷ [])) ∙ omega (arith, whole) in
        round-at o ring t (us ++ rs) m x ∙ ap (λ l. layer_claim o t l m) (append_assoc us rs (x ∷ []))
        ∙ second-claim t us (rs ++ x ∷ []) m size more ∙ phase-rows (second_phase o t us) (rs ++ x ∷ []) m
        ∙ ap (λ p. sum_below o (2 ^ m) (row_sum o p)) (phase-more (second_phase o t us) rs x m)

    pub phases-make_rounds : PhasesMakeRounds o t
    phases-make_rounds = record { first = first-node; second = second-node }
