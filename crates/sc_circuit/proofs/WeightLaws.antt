-- The weights of a layer's gates at a point, and what its rounds sum there.
use Rattle.std.proofs.Common.{◌≡◌, ℕ, suc, ◌+◌, ◌*◌, ◌<◌, ◌≤◌, ◌^◌, ◌==◌, ◌&&◌, Bool, true, false, List, [], ◌∷◌, ◌++◌, length, drop, get_or, if◌then◌else◌, sym, ◌∙◌, ap, refl, subst, arith, ⊎_elim, length-append, pow-add, drop-cons}
use mathlib.Core.Bool.{beq}
use Rattle.std.proofs.Math.ListN.{drop_of_length-le}
use Rattle.std.proofs.lemmas.Bool.{cases_lt}
use Rattle.std.proofs.lemmas.Nat.{mul-le}
use Rattle.sc_definitions.specs.Ring.{Ops, IsRing, element, plus, times, power}
use Rattle.sc_definitions.specs.Tables.{sum_below, entries, value, equality_weight}
use Rattle.sc_definitions.proofs.RingLaws.{element-zero, element-plus, element-small, plus_comm, plus_assoc, plus-zero}
use Rattle.sc_definitions.proofs.Sums.{sum-same, sum-plus}
use Rattle.sc_definitions.proofs.BlockLaws.{equality_weight-append}
use Rattle.sc_definitions.proofs.Identity.{atom, ◌⊕◌, ◌⊗◌, Agree, identity}
use Rattle.sc_field.proofs.EntryLaws.{entry-append_left, entry-append_last}
use Rattle.sc_circuit_definitions.specs.declared.gate.Gate.{Gate}
use Rattle.sc_circuit_definitions.specs.Circuits.{PlacesBelow, is_same_kind, is_gate_at, gate_weights}
use Rattle.sc_circuit_definitions.specs.LayerRounds.{gate_tables, layer_sum}
use Rattle.sc_circuit_definitions.proofs.LayerTruthLaws.{at_place, never}
use Rattle.sc_circuit.specs.Weights.{PlaceWeights, placed_share, kind_sum, gates_sum}

-- ---- powers

pub powers-none : (o : Ops) (x : ℕ) → power o x 0 ≡ 1
unfolding power
powers-none o x = refl

pub power-next : (o : Ops) (x y n : ℕ) → y ≡ power o x n → times o x y ≡ power o x (n + 1)
unfolding power
power-next o x y n is = let one : suc n ≡ n + 1 = omega arith in ap (times o x) is ∙ ap (power o x) one

pub powers-more : {X : Type 0} (o : Ops) (number : X → ℕ) (x : ℕ) (old new : List X) (y : X) (n : ℕ) → length old ≡ n →
    ((i : ℕ) → i < n → entries number old i ≡ power o x i) → number y ≡ power o x n → new ≡ old ++ y ∷ [] →
    (i : ℕ) → i < n + 1 → entries number new i ≡ power o x i
powers-more o number x old new y n len are is pushed i low =
    ap (λ xs. entries number xs i) pushed
    ∙ ⊎_elim (λ less. entry-append_left number old (y ∷ []) i (omega (arith, less, len)) ∙ are i less)
    (λ high. let at : length old ≡ i = omega (arith, len, low, high) in
    ap (entries number (old ++ y ∷ [])) (sym at) ∙ entry-append_last number old y ∙ is ∙ ap (power o x) (sym len ∙ at))
    (cases_lt i n)

-- ---- kinds

pub kind-same : (a b : Bool) → beq a b ≡ true → is_same_kind a b ≡ true
kind-same true true is = refl
kind-same true false is = is
kind-same false true is = is
kind-same false false is = refl

pub kind-other : (a b : Bool) → beq a b ≡ false → is_same_kind a b ≡ false
kind-other true true is = is
kind-other true false is = refl
kind-other false true is = refl
kind-other false false is = is

module _ (o : Ops) (ring : IsRing o) where
  -- ---- the sum over the gates, one after the other

  element-kind : (product : Bool) (w : ℕ → ℕ) (p : PlaceWeights) (g : ℕ) (gates : List Gate) → element o (kind_sum o product w p g gates) ≡ kind_sum o product w p g gates
  unfolding kind_sum
  element-kind product w p g [] = element-zero o ring
  element-kind product w p g (gate ∷ gates) = element-plus o ring _ _

  pub kind-none : (product : Bool) (w : ℕ → ℕ) (p : PlaceWeights) (gates : List Gate) (s : ℕ) → s ≡ 0 →
      kind_sum o product w p 0 gates ≡ plus o s (kind_sum o product w p 0 (drop 0 gates))
  kind-none product w p gates s none =
      let K = kind_sum o product w p 0 gates in
      sym (element-kind product w p 0 gates) ∙ sym (plus-zero o ring K) ∙ plus_comm o ring K 0 ∙ ap (λ n. plus o n K) (sym none)

  pub kind-more : (product : Bool) (w : ℕ → ℕ) (p : PlaceWeights) (gates : List Gate) (i : ℕ) (d : Gate) (s t : ℕ) → i < length gates →
      kind_sum o product w p 0 gates ≡ plus o s (kind_sum o product w p i (drop i gates)) →
      t ≡ plus o s (if is_same_kind (get_or gates i d).product product then placed_share o p (w i) (get_or gates i d) else 0) →
      kind_sum o product w p 0 gates ≡ plus o t (kind_sum o product w p (i + 1) (drop (i + 1) gates))
  unfolding kind_sum
  kind-more product w p gates i d s t inside so_far is =
      let one : suc i ≡ i + 1 = omega arith in
      let gate = get_or gates i d in
      let here = if is_same_kind gate.product product then placed_share o p (w i) gate else 0 in
      let rest = kind_sum o product w p (suc i) (drop (suc i) gates) in
      so_far
      ∙ ap (λ gs. plus o s (kind_sum o product w p i gs)) (drop-cons gates i d inside)
      ∙ sym (plus_assoc o ring s here rest)
      ∙ ap (λ n. plus o n rest) (sym is)
      ∙ ap (λ n. plus o t (kind_sum o product w p n (drop n gates))) one

  pub kind-all : (product : Bool) (w : ℕ → ℕ) (p : PlaceWeights) (gates : List Gate) (i s : ℕ) → length gates ≤ i → s < o.size →
      kind_sum o product w p 0 gates ≡ plus o s (kind_sum o product w p i (drop i gates)) → s ≡ kind_sum o product w p 0 gates
  unfolding kind_sum
  kind-all product w p gates i s past low so_far =
      sym (element-small o ring s low) ∙ sym (plus-zero o ring s)
      ∙ ap (λ gs. plus o s (kind_sum o product w p i gs)) (sym (drop_of_length-le gates past)) ∙ sym so_far

  -- ---- at a point of two halves

  module _ (k : ℕ) (us vs : List ℕ) (first : length us ≡ k) (second : length vs ≡ k) (p : PlaceWeights)
      (by_first : (b : ℕ) → b < 2 ^ k → p.first b ≡ equality_weight o us b) (by_second : (b : ℕ) → b < 2 ^ k → p.second b ≡ equality_weight o vs b) (w : ℕ → ℕ) where
    gate-here : (product : Bool) (g : ℕ) (gate : Gate) → gate.left < 2 ^ k → gate.right < 2 ^ k →
        sum_below o (2 ^ length (us ++ vs)) (λ b. times o (if is_gate_at product k b gate then w g else 0) (equality_weight o (us ++ vs) b))
        ≡ (if is_same_kind gate.product product then placed_share o p (w g) gate else 0)
    unfolding is_gate_at Agree
    gate-here product g gate left right =
        let K = 2 ^ k in
        let r = gate.left * K + gate.right in
        let N = 2 ^ length (us ++ vs) in
        let h : ℕ → ℕ = equality_weight o (us ++ vs) in
        let size : N ≡ K * K = ap (λ n. 2 ^ n) (length-append us vs) ∙ ap (λ n. 2 ^ (n + length vs)) first ∙ ap (λ n. 2 ^ (k + n)) second ∙ pow-add 2 k k in
        let fits : suc gate.left * K ≤ K * K = mul-le (suc gate.left) K K K left (omega arith) in
        let inside : r < N = omega (arith, fits, size, right) in
        let left_low : gate.left < 2 ^ length us = subst (λ n. gate.left < 2 ^ n) (sym first) left in
        let right_low : gate.right < 2 ^ length vs = subst (λ n. gate.right < 2 ^ n) (sym second) right in
        let at : h r ≡ times o (p.first gate.left) (p.second gate.right) =
        ap (λ n. h (gate.left * 2 ^ n + gate.right)) (sym second) ∙ equality_weight-append o ring us vs gate.left gate.right left_low right_low
        ∙ ap (λ n. times o n (equality_weight o vs gate.right)) (sym (by_first gate.left left)) ∙ ap (times o (p.first gate.left)) (sym (by_second gate.right right)) in
        elim (is_same_kind gate.product product) as (λ s. sum_below o N (λ b. times o (if s && (b == r) then w g else 0) (h b)) ≡ (if s then placed_share o p (w g) gate else 0)) [
          | true ↦ at_place o ring N r (w g) h inside ∙ ap (times o (w g)) at
              ∙ identity o ring (w g ∷ p.first gate.left ∷ p.second gate.right ∷ []) (atom 0 ⊗ (atom 1 ⊗ atom 2)) ((atom 0 ⊗ atom 1) ⊗ atom 2) tt tt refl
          | false ↦ never o ring N h
        ]

    kind-value : (product : Bool) (g : ℕ) (gates : List Gate) → PlacesBelow (2 ^ k) gates →
        value o (gate_weights o product w k g gates) (us ++ vs) ≡ kind_sum o product w p g gates
    unfolding value gate_weights kind_sum Agree
    kind-value product g [] places = never o ring (2 ^ length (us ++ vs)) (equality_weight o (us ++ vs))
    kind-value product g (gate ∷ gates) places =
        let N = 2 ^ length (us ++ vs) in
        let h : ℕ → ℕ = equality_weight o (us ++ vs) in
        let A : ℕ → ℕ = λ b. if is_gate_at product k b gate then w g else 0 in
        let S : ℕ → ℕ = gate_weights o product w k (suc g) gates in
        sum-same o N _ _ (λ b _. identity o ring (A b ∷ S b ∷ h b ∷ []) ((atom 0 ⊕ atom 1) ⊗ atom 2) (atom 0 ⊗ atom 2 ⊕ atom 1 ⊗ atom 2) tt tt refl)
        ∙ sym (sum-plus o ring N (λ b. times o (A b) (h b)) (λ b. times o (S b) (h b)))
        ∙ ap (λ n. plus o n (sum_below o N (λ b. times o (S b) (h b)))) (gate-here product g gate places.0 places.1)
        ∙ ap (plus o (if is_same_kind gate.product product then placed_share o p (w g) gate else 0)) (kind-value product (suc g) gates places.2)

    -- one walk over the gates gives what the rounds sum
    pub gates-value : (v : ℕ → ℕ) (gates : List Gate) (left right : ℕ) → PlacesBelow (2 ^ k) gates →
        gates_sum o w p gates left right ≡ layer_sum o (gate_tables o k w v gates) (us ++ vs) left right
    unfolding gates_sum layer_sum
    gates-value v gates left right places =
        let s = kind-value false 0 gates places in
        let q = kind-value true 0 gates places in
        ap (λ n. plus o (times o n (plus o left right)) (times o (kind_sum o true w p 0 gates) (times o left right))) (sym s)
        ∙ ap (λ n. plus o (times o (value o (gate_weights o false w k 0 gates) (us ++ vs)) (plus o left right)) (times o n (times o left right))) (sym q)

  -- ---- weights that are the same of the gates

  kind-weights : (product : Bool) (w u : ℕ → ℕ) (p : PlaceWeights) (g : ℕ) (gates : List Gate) → ((i : ℕ) → i < length gates → w (g + i) ≡ u (g + i)) →
      kind_sum o product w p g gates ≡ kind_sum o product u p g gates
  unfolding kind_sum
  kind-weights product w u p g [] same = refl
  kind-weights product w u p g (gate ∷ gates) same =
      let here : w g ≡ u g = let e : g + 0 ≡ g = omega arith in sym (ap w e) ∙ same 0 (omega arith) ∙ ap u e in
      ap (λ n. plus o (if is_same_kind gate.product product then placed_share o p n gate else 0) (kind_sum o product w p (suc g) gates)) here
      ∙ ap (plus o (if is_same_kind gate.product product then placed_share o p (u g) gate else 0))
      (kind-weights product w u p (suc g) gates (λ i low. let e : suc g + i ≡ g + suc i = omega arith in ap w e ∙ same (suc i) (omega (arith, low)) ∙ sym (ap u e)))

  pub gates-weights : (w u : ℕ → ℕ) (p : PlaceWeights) (gates : List Gate) (left right : ℕ) → ((i : ℕ) → i < length gates → w i ≡ u i) →
      gates_sum o w p gates left right ≡ gates_sum o u p gates left right
  unfolding gates_sum
  gates-weights w u p gates left right same =
      let at : (i : ℕ) → i < length gates → w (0 + i) ≡ u (0 + i) = λ i low. let e : 0 + i ≡ i = omega arith in ap w e ∙ same i low ∙ sym (ap u e) in
      ap (λ n. plus o (times o n (plus o left right)) (times o (kind_sum o true w p 0 gates) (times o left right))) (kind-weights false w u p 0 gates at)
      ∙ ap (λ n. plus o (times o (kind_sum o false u p 0 gates) (plus o left right)) (times o n (times o left right))) (kind-weights true w u p 0 gates at)
