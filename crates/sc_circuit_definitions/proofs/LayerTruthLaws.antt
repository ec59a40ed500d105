-- A layer's true claim is the sum of its values, each times its weight; and the values at the halves of the challenges make that of the layer below.
use Rattle.std.proofs.Common.{◌≡◌, ℕ, zero, suc, ◌+◌, ◌-◌, ◌*◌, ◌^◌, ◌<◌, ◌≤◌, ◌==◌, ◌&&◌, Bool, true, false, List, [], ◌∷◌, ◌++◌, length, map, take, drop, if◌then◌else◌, sym, ◌∙◌, ap, refl, subst, arith, ⊎_elim, pow-add}
use Rattle.std.proofs.lemmas.Bool.{cases_lt}
use Rattle.std.proofs.lemmas.Nat.{mul-le}
use Rattle.std.proofs.lemmas.List.{length-map}
use Rattle.std.proofs.Math.Seq.{drop-append_seam, take-append_seam}
use Rattle.sc_definitions.specs.Ring.{Ops, IsRing, element, plus, times, power}
use Rattle.sc_definitions.specs.Tables.{sum_below, value, digits, equality_weight, rows_of}
use Rattle.sc_definitions.specs.Shifts.{only_at}
use Rattle.sc_definitions.specs.Statements.{batched_by_powers}
use Rattle.sc_definitions.proofs.RingLaws.{element-times, plus-zero, plus_comm, times-element_left, times-element_right, plus-element_left, plus-element_right}
use Rattle.sc_definitions.proofs.Sums.{sum-same, sum-plus, times-sum}
use Rattle.sc_definitions.proofs.SuccessorLaws.{sum-none, one-place}
use Rattle.sc_definitions.proofs.TableLaws.{two_halves, length-digits, value-digits}
use Rattle.sc_definitions.proofs.Identity.{atom, nought, ◌⊕◌, ◌⊗◌, Agree, identity}
use Rattle.sc_soundness.proofs.PowerLaws.{sum-first, batched_by_powers-rows}
use Rattle.sc_circuit_definitions.specs.declared.gate.Gate.{Gate}
use Rattle.sc_circuit_definitions.specs.Circuits.{gate_value, PlacesBelow, weighted_sum, merged_weight, is_same_kind, is_gate_at, gate_weights}
use Rattle.sc_circuit_definitions.specs.LayerRounds.{LayersSumGates, layer_sum, layer_at, layer_claim}
use Rattle.sc_circuit_definitions.proofs.LayerRoundLaws.{digits-low, digits-high}

-- the digits of a row of two parts
pub digits-append : (n m x y : ℕ) → x < 2 ^ n → y < 2 ^ m → digits (n + m) (x * 2 ^ m + y) ≡ digits n x ++ digits m y
unfolding digits
digits-append zero m x y lx ly =
    let none : x ≡ 0 = omega arith in
    let e : 0 + m ≡ m = omega arith in
    let gone : 0 * 2 ^ m + y ≡ y = omega arith in
    ap (λ k. digits k (x * 2 ^ m + y)) e ∙ ap (λ k. digits m (k * 2 ^ m + y)) none ∙ ap (digits m) gone
digits-append (suc n) m x y lx ly =
    let P = 2 ^ m in let Q = 2 ^ n in
    let e : suc n + m ≡ suc (n + m) = omega arith in
    let big : 2 ^ (n + m) ≡ Q * P = pow-add 2 n m in
    let two : 2 ^ suc n ≡ Q + Q = two_halves n in
    ap (λ k. digits k (x * P + y)) e
    ∙ ⊎_elim
    (λ low.
    let fits : suc x * P ≤ Q * P = mul-le (suc x) P Q P low (omega arith) in
    let inside : x * P + y < Q * P = omega arith in
    digits-low (n + m) (x * P + y) (subst (λ k. x * P + y < k) (sym big) inside)
    ∙ ap (λ l. 0 ∷ l) (digits-append n m x y low ly)
    ∙ ap (λ l. l ++ digits m y) (sym (digits-low n x low)))
    (λ high.
    let d = x - Q in
    let top : x < Q + Q = subst (λ k. x < k) two lx in
    let d_low : d < Q = omega arith in
    let back : Q + d ≡ x = omega arith in
    let fits : suc d * P ≤ Q * P = mul-le (suc d) P Q P d_low (omega arith) in
    let inside : d * P + y < Q * P = omega arith in
    let moved : (Q + d) * P + y ≡ Q * P + (d * P + y) = omega arith in
    ap (λ k. digits (suc (n + m)) (k * P + y)) (sym back)
    ∙ ap (digits (suc (n + m))) (moved ∙ ap (λ k. k + (d * P + y)) (sym big))
    ∙ digits-high (n + m) (d * P + y) (subst (λ k. d * P + y < k) (sym big) inside)
    ∙ ap (λ l. 1 ∷ l) (digits-append n m d y d_low ly)
    ∙ ap (λ l. l ++ digits m y) (sym (digits-high n d d_low) ∙ ap (digits (suc n)) back))
    (cases_lt x Q)

module _ (o : Ops) (ring : IsRing o) where
  -- ---- the gates

  chosen : (t : Bool) (x y : ℕ) → times o (if t then x else 0) y ≡ (if t then times o x y else 0)
  unfolding Agree
  chosen true x y = refl
  chosen false x y = identity o ring (y ∷ []) (nought ⊗ atom 0) nought tt tt refl

  pub at_place : (N r x : ℕ) (h : ℕ → ℕ) → r < N → sum_below o N (λ b. times o (if b == r then x else 0) (h b)) ≡ times o x (h r)
  unfolding only_at
  at_place N r x h low =
      sum-same o N _ _ (λ b _. chosen (b == r) x (h b)) ∙ one-place o ring N r (λ b. times o x (h b)) low ∙ element-times o ring x (h r)

  pub never : (N : ℕ) (h : ℕ → ℕ) → sum_below o N (λ b. times o 0 (h b)) ≡ 0
  unfolding Agree
  never N h = sum-same o N _ _ (λ b _. identity o ring (h b ∷ []) (nought ⊗ atom 0) nought tt tt refl) ∙ sum-none o ring N

  -- the gates' values, each with its weight, from gate number g on
  gates_sum : (ℕ → ℕ) → ℕ → List Gate → (ℕ → ℕ) → ℕ
  gates_sum w g [] v = 0
  gates_sum w g (gate ∷ gates) v = plus o (times o (w g) (gate_value o v gate)) (gates_sum w (suc g) gates v)

  gates_sum-weighted : (w : ℕ → ℕ) (g : ℕ) (gates : List Gate) (v : ℕ → ℕ) →
      sum_below o (length gates) (λ i. times o (w (g + i)) (rows_of (map (gate_value o v) gates) i)) ≡ gates_sum w g gates v
  unfolding gates_sum sum_below rows_of
  gates_sum-weighted w g [] v = refl
  gates_sum-weighted w g (gate ∷ gates) v =
      let e : g + 0 ≡ g = omega arith in
      sum-first o ring (length gates) (λ i. times o (w (g + i)) (rows_of (map (gate_value o v) (gate ∷ gates)) i))
      ∙ ap (λ k. plus o (times o (w k) (gate_value o v gate)) (sum_below o (length gates) (λ i. times o (w (g + suc i)) (rows_of (map (gate_value o v) gates) i)))) e
      ∙ ap (plus o (times o (w g) (gate_value o v gate)))
      (sum-same o (length gates) _ _ (λ i _. let m : g + suc i ≡ suc g + i = omega arith in ap (λ k. times o (w k) (rows_of (map (gate_value o v) gates) i)) m)
      ∙ gates_sum-weighted w (suc g) gates v)

  -- one gate's share
  one_gate : (N k : ℕ) (w A B v : ℕ → ℕ) (g : ℕ) (gate : Gate) →
      (gate.left * 2 ^ k + gate.right < N)
      × (A (gate.left * 2 ^ k + gate.right) ≡ plus o (v gate.left) (v gate.right)) × (B (gate.left * 2 ^ k + gate.right) ≡ times o (v gate.left) (v gate.right)) →
      plus o (sum_below o N (λ b. times o (if is_gate_at false k b gate then w g else 0) (A b)))
      (sum_below o N (λ b. times o (if is_gate_at true k b gate then w g else 0) (B b)))
      ≡ times o (w g) (gate_value o v gate)
  unfolding gate_value is_gate_at
  one_gate N k w A B v g gate at =
      let r = gate.left * 2 ^ k + gate.right in
      elim gate.product as (λ t. plus o (sum_below o N (λ b. times o (if is_same_kind t false && (b == r) then w g else 0) (A b)))
      (sum_below o N (λ b. times o (if is_same_kind t true && (b == r) then w g else 0) (B b)))
      ≡ times o (w g) (if t then times o (v gate.left) (v gate.right) else plus o (v gate.left) (v gate.right))) [
        | true ↦
            ap (λ s. plus o s (sum_below o N (λ b. times o (if b == r then w g else 0) (B b)))) (never N A)
            ∙ ap (plus o 0) (at_place N r (w g) B at.0 ∙ ap (times o (w g)) at.2)
            ∙ plus_comm o ring 0 (times o (w g) (times o (v gate.left) (v gate.right))) ∙ plus-zero o ring (times o (w g) (times o (v gate.left) (v gate.right)))
            ∙ element-times o ring (w g) (times o (v gate.left) (v gate.right))
        | false ↦
            ap (λ s. plus o (sum_below o N (λ b. times o (if b == r then w g else 0) (A b))) s) (never N B)
            ∙ plus-zero o ring (sum_below o N (λ b. times o (if b == r then w g else 0) (A b)))
            ∙ ap (element o) (at_place N r (w g) A at.0 ∙ ap (times o (w g)) at.1)
            ∙ element-times o ring (w g) (plus o (v gate.left) (v gate.right))
      ]

  -- the sum over the pairs of places
  over_places : (N k : ℕ) (w : ℕ → ℕ) (A B v : ℕ → ℕ) (g : ℕ) (gates : List Gate) →
      ((gate : Gate) → gate.left < 2 ^ k → gate.right < 2 ^ k → (gate.left * 2 ^ k + gate.right < N)
      × (A (gate.left * 2 ^ k + gate.right) ≡ plus o (v gate.left) (v gate.right)) × (B (gate.left * 2 ^ k + gate.right) ≡ times o (v gate.left) (v gate.right))) →
      PlacesBelow (2 ^ k) gates →
      sum_below o N (λ b. plus o (times o (gate_weights o false w k g gates b) (A b)) (times o (gate_weights o true w k g gates b) (B b))) ≡ gates_sum w g gates v
  unfolding gate_weights gates_sum Agree
  over_places N k w A B v g [] at places =
      sum-same o N _ _ (λ b _. identity o ring (A b ∷ B b ∷ []) (nought ⊗ atom 0 ⊕ nought ⊗ atom 1) nought tt tt refl) ∙ sum-none o ring N
  over_places N k w A B v g (gate ∷ gates) at places =
      let rest_s : ℕ → ℕ = gate_weights o false w k (suc g) gates in
      let rest_p : ℕ → ℕ = gate_weights o true w k (suc g) gates in
      let here : Bool → ℕ → ℕ = λ kind b. if is_gate_at kind k b gate then w g else 0 in
      sum-same o N _ _ (λ b _. identity o ring (here false b ∷ here true b ∷ rest_s b ∷ rest_p b ∷ A b ∷ B b ∷ [])
      ((atom 0 ⊕ atom 2) ⊗ atom 4 ⊕ (atom 1 ⊕ atom 3) ⊗ atom 5) ((atom 0 ⊗ atom 4 ⊕ atom 1 ⊗ atom 5) ⊕ (atom 2 ⊗ atom 4 ⊕ atom 3 ⊗ atom 5)) tt tt refl)
      ∙ sym (sum-plus o ring N (λ b. plus o (times o (here false b) (A b)) (times o (here true b) (B b))) (λ b. plus o (times o (rest_s b) (A b)) (times o (rest_p b) (B b))))
      ∙ ap (λ s. plus o s (sum_below o N (λ b. plus o (times o (rest_s b) (A b)) (times o (rest_p b) (B b)))))
      (sym (sum-plus o ring N (λ b. times o (here false b) (A b)) (λ b. times o (here true b) (B b)))
      ∙ one_gate N k w A B v g gate (at gate places.0 places.1))
      ∙ ap (plus o (times o (w g) (gate_value o v gate))) (over_places N k w A B v (suc g) gates at places.2)

  parts : (k x y : ℕ) (v : ℕ → ℕ) → x < 2 ^ k → y < 2 ^ k →
      (value o v (take k (digits (k + k) (x * 2 ^ k + y))) ≡ element o (v x)) × (value o v (drop k (digits (k + k) (x * 2 ^ k + y))) ≡ element o (v y))
  parts k x y v lx ly =
      let both : digits (k + k) (x * 2 ^ k + y) ≡ digits k x ++ digits k y = digits-append k k x y lx ly in
      let size : k ≡ length (digits k x) = sym (length-digits o ring k x) in (
        ap (λ l. value o v (take k l)) both ∙ ap (λ n. value o v (take n (digits k x ++ digits k y))) size
            ∙ ap (value o v) (take-append_seam (digits k x) (digits k y)) ∙ value-digits o ring v k x lx,
        ap (λ l. value o v (drop k l)) both ∙ ap (λ n. value o v (drop n (digits k x ++ digits k y))) size
            ∙ ap (value o v) (drop-append_seam (digits k x) (digits k y)) ∙ value-digits o ring v k y ly,
      )

  -- the sum over the places of what its rounds sum is that over its gates
  pub layer-truth : LayersSumGates o
  unfolding layer_claim layer_at layer_sum weighted_sum
  layer-truth k gates w v places =
      let K = 2 ^ k in
      let s = gate_weights o false w k 0 gates in let p = gate_weights o true w k 0 gates in
      let front : ℕ → ℕ = λ b. value o v (take k (digits (k + k) b)) in
      let back : ℕ → ℕ = λ b. value o v (drop k (digits (k + k) b)) in
      let A : ℕ → ℕ = λ b. plus o (front b) (back b) in
      let B : ℕ → ℕ = λ b. times o (front b) (back b) in
      let size : 2 ^ (k + k) ≡ K * K = pow-add 2 k k in
      let many : length (map (gate_value o v) gates) ≡ length gates = length-map gates (gate_value o v) in
      sum-same o (2 ^ (k + k)) _ _ (λ b low.
      ap (λ n. plus o (times o n (A b)) (times o (value o p (digits (k + k) b)) (B b))) (value-digits o ring s (k + k) b low)
      ∙ ap (λ n. plus o (times o (element o (s b)) (A b)) (times o n (B b))) (value-digits o ring p (k + k) b low)
      ∙ ap (λ n. plus o n (times o (element o (p b)) (B b))) (times-element_left o ring (s b) (A b))
      ∙ ap (plus o (times o (s b) (A b))) (times-element_left o ring (p b) (B b)))
      ∙ over_places (2 ^ (k + k)) k w A B v 0 gates (λ gate left_low right_low.
      let split = parts k gate.left gate.right v left_low right_low in
      let fits : suc gate.left * K ≤ K * K = mul-le (suc gate.left) K K K left_low (omega arith) in
      let inside : gate.left * K + gate.right < K * K = omega arith in (
        subst (λ n. gate.left * K + gate.right < n) (sym size) inside,
        ap (λ n. plus o n (back (gate.left * K + gate.right))) split.0 ∙ ap (plus o (element o (v gate.left))) split.1
            ∙ plus-element_left o ring (v gate.left) (element o (v gate.right)) ∙ plus-element_right o ring (v gate.left) (v gate.right),
        ap (λ n. times o n (back (gate.left * K + gate.right))) split.0 ∙ ap (times o (element o (v gate.left))) split.1
            ∙ times-element_left o ring (v gate.left) (element o (v gate.right)) ∙ times-element_right o ring (v gate.left) (v gate.right),
      )) places
      ∙ sym (gates_sum-weighted w 0 gates v)
      ∙ sum-same o (length gates) _ _ (λ i _. let e : 0 + i ≡ i = omega arith in ap (λ n. times o (w n) (rows_of (map (gate_value o v) gates) i)) e)
      ∙ ap (λ n. sum_below o n (λ g. times o (w g) (rows_of (map (gate_value o v) gates) g))) (sym many)

  -- ---- weights

  -- powers as weights
  pub powers-weighted : (c : ℕ) (values : List ℕ) → weighted_sum o (power o c) values ≡ batched_by_powers o c 0 values
  unfolding weighted_sum
  powers-weighted c values =
      sum-same o (length values) _ _ (λ i _. let e : i ≡ 0 + i = omega arith in ap (λ n. times o (power o c n) (rows_of values i)) e) ∙ sym (batched_by_powers-rows o ring c 0 values)

  -- the weights of two points: their two values, the second times the challenge that merges them
  pub merged-weighted : (c : ℕ) (us vs values : List ℕ) → length values ≡ 2 ^ length us → length us ≡ length vs →
      weighted_sum o (merged_weight o c us vs) values ≡ plus o (value o (rows_of values) us) (times o c (value o (rows_of values) vs))
  unfolding weighted_sum merged_weight value Agree
  merged-weighted c us vs values long same =
      let N = length values in
      let f = rows_of values in
      let U : ℕ → ℕ = λ g. times o (f g) (equality_weight o us g) in
      let V : ℕ → ℕ = λ g. times o (f g) (equality_weight o vs g) in
      sum-same o N _ _ (λ g _. identity o ring (equality_weight o us g ∷ c ∷ equality_weight o vs g ∷ f g ∷ [])
      ((atom 0 ⊕ atom 1 ⊗ atom 2) ⊗ atom 3) (atom 3 ⊗ atom 0 ⊕ atom 1 ⊗ (atom 3 ⊗ atom 2)) tt tt refl)
      ∙ sym (sum-plus o ring N U (λ g. times o c (V g)))
      ∙ ap (plus o (sum_below o N U)) (sym (times-sum o ring c N V))
      ∙ ap (λ n. plus o (sum_below o n U) (times o c (sum_below o N V))) long
      ∙ ap (λ n. plus o (sum_below o (2 ^ length us) U) (times o c (sum_below o n V))) (long ∙ ap (λ k. 2 ^ k) same)
