-- What the tables of a layer's prover say of its next round, and what a challenge that is folded in makes of them.
use Rattle.std.proofs.Common.{◌≡◌, ℕ, suc, ◌+◌, ◌-◌, ◌<◌, ◌≤◌, ◌^◌, List, [], ◌∷◌, ◌++◌, length, take, drop, if◌then◌else◌, sym, ◌∙◌, ap, refl, subst, arith, ⊎_elim, append_assoc, length-append, length-drop, length-take-le, le-ltb, lt-ltb, pow-suc}
use Rattle.std.proofs.lemmas.Bool.{cases_lt}
use Rattle.std.proofs.lemmas.List.{drop-append-le, take-append-le, take-append-drop, take_all}
use Rattle.std.proofs.Math.ListN.{drop_of_length-le}
use Rattle.sc_definitions.specs.Ring.{Ops, IsRing}
use Rattle.sc_definitions.specs.Tables.{sum_below, bound, folded_by}
use Rattle.sc_definitions.specs.Polynomials.{poly_at}
use Rattle.sc_definitions.proofs.Sums.{sum-same}
use Rattle.sc_degree.specs.Provers.{IsFolded}
use Rattle.sc_circuit_definitions.specs.LayerRounds.{LayerTables, layer_round, layer_claim}
use Rattle.sc_circuit_definitions.specs.LayerPhases.{Phase, first_phase, second_phase, row_sum, bound_phase, phase_at_next}
use Rattle.sc_circuit_definitions.proofs.LayerPhaseLaws.{phase-more, first-node, second-node}
use Rattle.sc_circuit.specs.Phases.{SameRows, left_after, phase_after}
use Rattle.sc_circuit.specs.Provers.{layer_prover}

pub layer-folded : (o : Ops) (t : LayerTables) (us : List ℕ) (r : ℕ) → length us < t.variables + t.variables →
    IsFolded (r ∷ []) (layer_prover o t us) (layer_prover o t (us ++ r ∷ []))
layer-folded o t us r some =
    let n = t.variables + t.variables in
    let one : length (us ++ r ∷ []) ≡ length us + 1 = length-append us (r ∷ []) in
    record {
      degree = refl;
      variables = omega (arith, one, some);
      polynomial = λ qs low. ap (λ l. layer_round o t l (n - suc (length l))) (append_assoc us (r ∷ []) qs);
      claim = λ qs low. ap (λ l. layer_claim o t l (n - length l)) (append_assoc us (r ∷ []) qs);
    }

-- ---- which half is played

pub left-first : (k n : ℕ) → n < k → left_after k n ≡ k - n
left-first k n low = ap (λ b. if b then k - n else (k + k) - n) (lt-ltb n k low)

pub left-second : (k n : ℕ) → k ≤ n → left_after k n ≡ (k + k) - n
left-second k n high = ap (λ b. if b then k - n else (k + k) - n) (le-ltb n k high)

module _ (o : Ops) (t : LayerTables) (us : List ℕ) where
  after-first : length us < t.variables → phase_after o t us ≡ bound_phase o us (t.variables - length us) (first_phase o t)
  unfolding phase_after
  after-first low =
      ap (λ b. if b then bound_phase o us (t.variables - length us) (first_phase o t)
      else bound_phase o (drop t.variables us) ((t.variables + t.variables) - length us) (second_phase o t (take t.variables us))) (lt-ltb (length us) t.variables low)

  after-second : t.variables ≤ length us →
      phase_after o t us ≡ bound_phase o (drop t.variables us) ((t.variables + t.variables) - length us) (second_phase o t (take t.variables us))
  unfolding phase_after
  after-second high =
      ap (λ b. if b then bound_phase o us (t.variables - length us) (first_phase o t)
      else bound_phase o (drop t.variables us) ((t.variables + t.variables) - length us) (second_phase o t (take t.variables us))) (le-ltb (length us) t.variables high)

-- ---- rows that are the same

pub rows-by : (n : ℕ) (p q s : Phase) → q ≡ s → SameRows n p q → SameRows n p s
rows-by n p q s e same = subst (SameRows n p) e same

module _ (o : Ops) (m x : ℕ) (p q : Phase) (same : SameRows (2 ^ suc m) p q) where
  halves : 2 ^ suc m ≡ 2 ^ m + 2 ^ m
  halves = pow-suc 2 m ∙ omega arith

  bound-same : (f g : ℕ → ℕ) → ((b : ℕ) → b < 2 ^ suc m → f b ≡ g b) → (b : ℕ) → b < 2 ^ m → bound o (2 ^ m) x f b ≡ bound o (2 ^ m) x g b
  unfolding bound
  bound-same f g are b low =
      let first : f b ≡ g b = are b (omega (arith, low, halves)) in
      let second : f (2 ^ m + b) ≡ g (2 ^ m + b) = are (2 ^ m + b) (omega (arith, low, halves)) in
      cc

  pub next-same : SameRows (2 ^ m) (phase_at_next o m x p) (phase_at_next o m x q)
  next-same = record {
    values = bound-same p.values q.values same.values;
    factors = bound-same p.factors q.factors same.factors;
    rests = bound-same p.rests q.rests same.rests;
  }

  pub sums-same : sum_below o (2 ^ m) (row_sum o (phase_at_next o m x p)) ≡ sum_below o (2 ^ m) (row_sum o (phase_at_next o m x q))
  unfolding row_sum
  sums-same =
      sum-same o (2 ^ m) _ _ (λ b low.
      let value = next-same.values b low in
      let factor = next-same.factors b low in
      let rest = next-same.rests b low in
      cc)

pub rows-then : (n : ℕ) (p q s : Phase) → SameRows n p q → SameRows n q s → SameRows n p s
rows-then n p q s first second = record {
  values = λ b low. first.values b low ∙ second.values b low;
  factors = λ b low. first.factors b low ∙ second.factors b low;
  rests = λ b low. first.rests b low ∙ second.rests b low;
}

module _ (o : Ops) (ring : IsRing o) (t : LayerTables) (us : List ℕ) where
  -- ---- the next round

  node-of : (m x : ℕ) → left_after t.variables (length us) ≡ suc m →
      sum_below o (2 ^ m) (row_sum o (phase_at_next o m x (phase_after o t us))) ≡ poly_at o (layer_round o t us ((t.variables + t.variables) - suc (length us))) x
  node-of m x left =
      let k = t.variables in
      let n = length us in
      ⊎_elim
      (λ (low : n < k).
      let here : k - n ≡ suc m = sym (left-first k n low) ∙ left in
      let whole : n + suc m ≡ k = omega (arith, here, low) in
      let after : m + k ≡ (k + k) - suc n = omega (arith, whole) in
      ap (λ p. sum_below o (2 ^ m) (row_sum o (phase_at_next o m x p))) (after-first o t us low ∙ ap (λ j. bound_phase o us j (first_phase o t)) here)
      ∙ sym (first-node o ring t us m x whole)
      ∙ ap (λ j. poly_at o (layer_round o t us j) x) after)
      (λ (high : k ≤ n).
      let here : (k + k) - n ≡ suc m = sym (left-second k n high) ∙ left in
      let after : m ≡ (k + k) - suc n = omega (arith, here) in
      let first : length (take k us) ≡ k = length-take-le k us high in
      let rest : length (drop k us) + suc m ≡ k = omega (arith, length-drop k us, here, high) in
      ap (λ p. sum_below o (2 ^ m) (row_sum o (phase_at_next o m x p)))
      (after-second o t us high ∙ ap (λ j. bound_phase o (drop k us) j (second_phase o t (take k us))) here)
      ∙ sym (second-node o ring t (take k us) (drop k us) m x first rest)
      ∙ ap (λ l. poly_at o (layer_round o t l m) x) (take-append-drop k us)
      ∙ ap (λ j. poly_at o (layer_round o t us j) x) after)
      (cases_lt n k)

  -- what the tables sum with the next variable at x is the round's polynomial there
  pub round-node : (m x : ℕ) (p : Phase) → left_after t.variables (length us) ≡ suc m → SameRows (2 ^ suc m) p (phase_after o t us) →
      sum_below o (2 ^ m) (row_sum o (phase_at_next o m x p)) ≡ poly_at o (layer_round o t us ((t.variables + t.variables) - suc (length us))) x
  round-node m x p left same = sums-same o m x p (phase_after o t us) same ∙ node-of m x left

  -- ---- a challenge more

  -- one that is not the last of the first half leaves its tables bound
  next-after : (m r : ℕ) → left_after t.variables (length us) ≡ suc m → (length us + 1 ≡ t.variables → ⊥) →
      (left_after t.variables (length us + 1) ≡ m) × (phase_at_next o m r (phase_after o t us) ≡ phase_after o t (us ++ r ∷ []))
  next-after m r left other =
      let k = t.variables in
      let n = length us in
      let one : length (us ++ r ∷ []) ≡ n + 1 = length-append us (r ∷ []) in
      ⊎_elim
      (λ (low : n < k).
      let here : k - n ≡ suc m = sym (left-first k n low) ∙ left in
      let more : n + 1 < k = omega (arith, low, other) in
      let fewer : k - (n + 1) ≡ m = omega (arith, here) in (
        left-first k (n + 1) more ∙ fewer,
        ap (phase_at_next o m r) (after-first o t us low ∙ ap (λ j. bound_phase o us j (first_phase o t)) here)
            ∙ sym (phase-more o ring (first_phase o t) us r m)
            ∙ ap (λ j. bound_phase o (us ++ r ∷ []) j (first_phase o t)) (sym fewer ∙ ap (λ j. k - j) (sym one))
            ∙ sym (after-first o t (us ++ r ∷ []) (omega (arith, one, more))),
      ))
      (λ (high : k ≤ n).
      let here : (k + k) - n ≡ suc m = sym (left-second k n high) ∙ left in
      let fewer : (k + k) - (n + 1) ≡ m = omega (arith, here) in (
        left-second k (n + 1) (omega (arith, high)) ∙ fewer,
        ap (phase_at_next o m r) (after-second o t us high ∙ ap (λ j. bound_phase o (drop k us) j (second_phase o t (take k us))) here)
            ∙ sym (phase-more o ring (second_phase o t (take k us)) (drop k us) r m)
            ∙ ap (λ l. bound_phase o l m (second_phase o t (take k us))) (sym (drop-append-le k us (r ∷ []) high))
            ∙ ap (λ l. bound_phase o (drop k (us ++ r ∷ [])) m (second_phase o t l)) (sym (take-append-le k us (r ∷ []) high))
            ∙ ap (λ j. bound_phase o (drop k (us ++ r ∷ [])) j (second_phase o t (take k (us ++ r ∷ [])))) (sym fewer ∙ ap (λ j. (k + k) - j) (sym one))
            ∙ sym (after-second o t (us ++ r ∷ []) (omega (arith, one, high))),
      ))
      (cases_lt n k)

  pub bound-after : (m r : ℕ) (p p' : Phase) → left_after t.variables (length us) ≡ suc m → (length us + 1 ≡ t.variables → ⊥) →
      SameRows (2 ^ suc m) p (phase_after o t us) → SameRows (2 ^ m) p' (phase_at_next o m r p) →
      (left_after t.variables (length us + 1) ≡ m) × SameRows (2 ^ m) p' (phase_after o t (us ++ r ∷ []))
  bound-after m r p p' left other same next =
      let more = next-after m r left other in
      (more.0, rows-by (2 ^ m) p' _ _ more.1 (rows-then (2 ^ m) p' _ _ next (next-same o m r p (phase_after o t us) same)))

-- at the last challenge of the first half the second one begins
pub begun-after : (o : Ops) (t : LayerTables) (us : List ℕ) (p : Phase) → length us ≡ t.variables → SameRows (2 ^ t.variables) p (second_phase o t us) →
    (left_after t.variables (length us) ≡ t.variables) × SameRows (2 ^ t.variables) p (phase_after o t us)
unfolding folded_by
begun-after o t us p size same =
    let k = t.variables in
    let n = length us in
    let high : k ≤ n = omega (arith, size) in
    let left : (k + k) - n ≡ k = omega (arith, size) in
    let first : take k us ≡ us = take_all k us (omega (arith, size)) in
    let rest : drop k us ≡ [] = drop_of_length-le us (omega (arith, size)) in (
      left-second k n high ∙ left,
      rows-by (2 ^ k) p (second_phase o t us) (phase_after o t us)
          (sym (after-second o t us high ∙ ap (λ j. bound_phase o (drop k us) j (second_phase o t (take k us))) left
          ∙ ap (λ l. bound_phase o l k (second_phase o t (take k us))) rest ∙ ap (second_phase o t) first)) same,
    )

-- before all challenges the first half stands
pub first-after : (o : Ops) (t : LayerTables) (p : Phase) → 0 < t.variables → SameRows (2 ^ t.variables) p (first_phase o t) → SameRows (2 ^ t.variables) p (phase_after o t [])
unfolding folded_by
first-after o t p some same = rows-by (2 ^ t.variables) p (first_phase o t) (phase_after o t []) (sym (after-first o t [] some)) same

-- and as many variables are left as it has
pub left-none : (k n : ℕ) → n ≡ 0 → left_after k n ≡ k
left-none k n none =
    ⊎_elim (λ (low : n < k). left-first k n low ∙ omega (arith, none)) (λ (high : k ≤ n). left-second k n high ∙ omega (arith, none, high)) (cases_lt n k)

-- some are where not all challenges were drawn
pub left-some : (k n : ℕ) → n < k + k → 0 < left_after k n
left-some k n some =
    ⊎_elim (λ (low : n < k). subst (λ j. 0 < j) (sym (left-first k n low)) (omega (arith, low)))
    (λ (high : k ≤ n). subst (λ j. 0 < j) (sym (left-second k n high)) (omega (arith, some))) (cases_lt n k)
