-- The tables of a layer's two halves, made by one walk over its gates each.
use Rattle.std.proofs.Common.{◌≡◌, ℕ, suc, ◌+◌, ◌*◌, ◌/◌, ◌%◌, ◌^◌, ◌<◌, ◌==◌, ◌&&◌, Bool, true, false, List, [], ◌∷◌, length, if◌then◌else◌, sym, ◌∙◌, ap, refl, ⊎_elim, eq-eqb, ne_eqb}
use Rattle.std.proofs.lemmas.Bool.{cases_eq}
use Rattle.std.proofs.lemmas.Nat.{div-mul-add, mod-mul-add}
use Rattle.sc_definitions.specs.Ring.{Ops, IsRing, element, plus, times}
use Rattle.sc_definitions.specs.Tables.{sum_below, value, equality_weight}
use Rattle.sc_definitions.specs.Shifts.{only_at}
use Rattle.sc_definitions.proofs.RingLaws.{element-element, element-zero, element-times, plus_comm, plus-zero, plus-element_left}
use Rattle.sc_definitions.proofs.Sums.{sum-same, sum-plus}
use Rattle.sc_definitions.proofs.SuccessorLaws.{sum-none, one-place}
use Rattle.sc_definitions.proofs.Identity.{atom, nought, ◌⊕◌, ◌⊗◌, Agree, identity}
use Rattle.sc_circuit_definitions.specs.declared.gate.Gate.{Gate}
use Rattle.sc_circuit_definitions.specs.Circuits.{PlacesBelow, is_same_kind, is_gate_at, gate_weights}
use Rattle.sc_circuit_definitions.specs.LayerRounds.{LayerTables}
use Rattle.sc_circuit_definitions.specs.LayerPhases.{first_factor, first_rest, row_at, shares_at, factor_share, rest_share, row_share, WalksMakePhases}
use Rattle.sc_circuit_definitions.proofs.LayerTruthLaws.{at_place, never}

-- two places of blocks are the same where their blocks are, and their places in these
same_places : (K x y l r : ℕ) → y < K → r < K → (x * K + y == l * K + r) ≡ ((x == l) && (y == r))
same_places K x y l r ly lr =
    ⊎_elim
    (λ same_x.
    ⊎_elim
    (λ same_y. let e : x * K + y ≡ l * K + r = ap (λ n. n * K + y) same_x ∙ ap (λ n. l * K + n) same_y in
    eq-eqb _ _ e ∙ ap (λ b. b && true) (sym (eq-eqb x l same_x)) ∙ ap (λ b. (x == l) && b) (sym (eq-eqb y r same_y)))
    (λ other.
    ne_eqb _ _ (λ e. other (sym (mod-mul-add x K y ly) ∙ ap (λ n. n % K) e ∙ mod-mul-add l K r lr))
    ∙ ap (λ b. b && false) (sym (eq-eqb x l same_x)) ∙ ap (λ b. (x == l) && b) (sym (ne_eqb y r other)))
    (cases_eq y r))
    (λ other.
    ne_eqb _ _ (λ e. other (sym (div-mul-add x K y ly) ∙ ap (λ n. n / K) e ∙ div-mul-add l K r lr))
    ∙ ap (λ b. b && (y == r)) (sym (ne_eqb x l other)))
    (cases_eq x l)

module _ (o : Ops) (ring : IsRing o) where
  -- one place of a sum, if it is asked for
  picked : (N r : ℕ) (c : Bool) (x : ℕ) (h : ℕ → ℕ) → r < N → sum_below o N (λ y. times o (if c && (y == r) then x else 0) (h y)) ≡ (if c then times o x (h r) else 0)
  picked N r true x h low = at_place o ring N r x h low
  picked N r false x h low = never o ring N h

  picked_one : (N r : ℕ) (c : Bool) (x : ℕ) → r < N → sum_below o N (λ y. if c && (y == r) then x else 0) ≡ (if c then element o x else 0)
  unfolding only_at
  picked_one N r true x low = one-place o ring N r (λ y. x) low
  picked_one N r false x low = sum-none o ring N

  zero-left : (z : ℕ) → plus o 0 z ≡ element o z
  zero-left z = plus_comm o ring 0 z ∙ plus-zero o ring z

  same-element : (c : Bool) (x : ℕ) → element o (if c then element o x else 0) ≡ element o (if c then x else 0)
  same-element true x = element-element o ring x
  same-element false x = refl

  module _ (k : ℕ) (w v : ℕ → ℕ) where
    -- the tables of gates that are numbered from g on
    abbrev tables : ℕ → List Gate → LayerTables
    tables g gates = record { variables = k; sums = gate_weights o false w k g gates; products = gate_weights o true w k g gates; below = v }

    -- ---- the first half

    one-factor : (g : ℕ) (gate : Gate) (x : ℕ) → gate.right < 2 ^ k →
        sum_below o (2 ^ k) (λ y. plus o (if is_gate_at false k (x * 2 ^ k + y) gate then w g else 0) (times o (if is_gate_at true k (x * 2 ^ k + y) gate then w g else 0) (v y)))
        ≡ element o (if x == gate.left then factor_share o w v g gate else 0)
    unfolding is_gate_at factor_share
    one-factor g gate x low =
        let K = 2 ^ k in
        let l = gate.left in let r = gate.right in
        let c = x == l in
        elim gate.product as (λ p. sum_below o K (λ y. plus o (if is_same_kind p false && (x * K + y == l * K + r) then w g else 0)
        (times o (if is_same_kind p true && (x * K + y == l * K + r) then w g else 0) (v y)))
        ≡ element o (if c then (if p then times o (w g) (v r) else w g) else 0)) [
          | true ↦
              sum-same o K _ _ (λ y ly. ap (λ b. plus o 0 (times o (if b then w g else 0) (v y))) (same_places K x y l r ly low) ∙ zero-left _ ∙ element-times o ring _ _)
              ∙ picked K r c (w g) v low ∙ whole c (times o (w g) (v r)) (element-times o ring (w g) (v r))
          | false ↦
              sum-same o K _ _ (λ y ly. ap (λ b. plus o (if b then w g else 0) (times o 0 (v y))) (same_places K x y l r ly low))
              ∙ sym (sum-plus o ring K (λ y. if c && (y == r) then w g else 0) (λ y. times o 0 (v y)))
              ∙ ap (plus o (sum_below o K (λ y. if c && (y == r) then w g else 0))) (never o ring K v)
              ∙ plus-zero o ring (sum_below o K (λ y. if c && (y == r) then w g else 0))
              ∙ ap (element o) (picked_one K r c (w g) low) ∙ same-element c (w g)
        ] where
          whole : (c : Bool) (z : ℕ) → element o z ≡ z → (if c then z else 0) ≡ element o (if c then z else 0)
          whole true z e = sym e
          whole false z e = sym (element-zero o ring)

    pub factors-walk : (g : ℕ) (gates : List Gate) (x : ℕ) → PlacesBelow (2 ^ k) gates → first_factor o (tables g gates) x ≡ shares_at o (λ gate. gate.left) (factor_share o w v) g gates x
    unfolding first_factor gate_weights shares_at Agree
    factors-walk g [] x places =
        sum-same o (2 ^ k) _ _ (λ y _. identity o ring (v y ∷ []) (nought ⊕ nought ⊗ atom 0) nought tt tt refl) ∙ sum-none o ring (2 ^ k)
    factors-walk g (gate ∷ gates) x places =
        let K = 2 ^ k in
        let A : ℕ → ℕ = λ y. if is_gate_at false k (x * K + y) gate then w g else 0 in
        let B : ℕ → ℕ = λ y. if is_gate_at true k (x * K + y) gate then w g else 0 in
        let S : ℕ → ℕ = λ y. gate_weights o false w k (suc g) gates (x * K + y) in
        let P : ℕ → ℕ = λ y. gate_weights o true w k (suc g) gates (x * K + y) in
        sum-same o K _ _ (λ y _. identity o ring (A y ∷ B y ∷ S y ∷ P y ∷ v y ∷ [])
        ((atom 0 ⊕ atom 2) ⊕ (atom 1 ⊕ atom 3) ⊗ atom 4) ((atom 0 ⊕ atom 1 ⊗ atom 4) ⊕ (atom 2 ⊕ atom 3 ⊗ atom 4)) tt tt refl)
        ∙ sym (sum-plus o ring K (λ y. plus o (A y) (times o (B y) (v y))) (λ y. plus o (S y) (times o (P y) (v y))))
        ∙ ap (λ n. plus o n (sum_below o K (λ y. plus o (S y) (times o (P y) (v y))))) (one-factor g gate x places.1)
        ∙ plus-element_left o ring (if x == gate.left then factor_share o w v g gate else 0) (sum_below o K (λ y. plus o (S y) (times o (P y) (v y))))
        ∙ ap (plus o (if x == gate.left then factor_share o w v g gate else 0)) (factors-walk (suc g) gates x places.2)

    one-rest : (g : ℕ) (gate : Gate) (x : ℕ) → gate.right < 2 ^ k →
        sum_below o (2 ^ k) (λ y. times o (if is_gate_at false k (x * 2 ^ k + y) gate then w g else 0) (v y)) ≡ (if x == gate.left then rest_share o w v g gate else 0)
    unfolding is_gate_at rest_share
    one-rest g gate x low =
        let K = 2 ^ k in
        let l = gate.left in let r = gate.right in
        let c = x == l in
        elim gate.product as (λ p. sum_below o K (λ y. times o (if is_same_kind p false && (x * K + y == l * K + r) then w g else 0) (v y))
        ≡ (if c then (if p then 0 else times o (w g) (v r)) else 0)) [
          | true ↦ never o ring K v ∙ nothing c
          | false ↦
              sum-same o K _ _ (λ y ly. ap (λ b. times o (if b then w g else 0) (v y)) (same_places K x y l r ly low)) ∙ picked K r c (w g) v low
        ] where
          nothing : (c : Bool) → ◌≡◌ {A = ℕ} 0 (if c then 0 else 0)
          nothing true = refl
          nothing false = refl

    pub rests-walk : (g : ℕ) (gates : List Gate) (x : ℕ) → PlacesBelow (2 ^ k) gates → first_rest o (tables g gates) x ≡ shares_at o (λ gate. gate.left) (rest_share o w v) g gates x
    unfolding first_rest gate_weights shares_at Agree
    rests-walk g [] x places =
        sum-same o (2 ^ k) _ _ (λ y _. identity o ring (v y ∷ []) (nought ⊗ atom 0) nought tt tt refl) ∙ sum-none o ring (2 ^ k)
    rests-walk g (gate ∷ gates) x places =
        let K = 2 ^ k in
        let A : ℕ → ℕ = λ y. if is_gate_at false k (x * K + y) gate then w g else 0 in
        let S : ℕ → ℕ = λ y. gate_weights o false w k (suc g) gates (x * K + y) in
        sum-same o K _ _ (λ y _. identity o ring (A y ∷ S y ∷ v y ∷ []) ((atom 0 ⊕ atom 1) ⊗ atom 2) (atom 0 ⊗ atom 2 ⊕ atom 1 ⊗ atom 2) tt tt refl)
        ∙ sym (sum-plus o ring K (λ y. times o (A y) (v y)) (λ y. times o (S y) (v y)))
        ∙ ap (λ n. plus o n (sum_below o K (λ y. times o (S y) (v y)))) (one-rest g gate x places.1)
        ∙ ap (plus o (if x == gate.left then rest_share o w v g gate else 0)) (rests-walk (suc g) gates x places.2)

    -- ---- the second half

    module _ (us : List ℕ) (size : length us ≡ k) where
      one-row : (product : Bool) (g : ℕ) (gate : Gate) (y : ℕ) → gate.left < 2 ^ k → gate.right < 2 ^ k → y < 2 ^ k →
          sum_below o (2 ^ k) (λ x. times o (if is_gate_at product k (x * 2 ^ k + y) gate then w g else 0) (equality_weight o us x)) ≡ (if y == gate.right then row_share o product w us g gate else 0)
      unfolding is_gate_at row_share
      one-row product g gate y low_l low_r ly =
          let K = 2 ^ k in
          let l = gate.left in let r = gate.right in
          let c = y == r in
          elim (is_same_kind gate.product product) as (λ s. sum_below o K (λ x. times o (if s && (x * K + y == l * K + r) then w g else 0) (equality_weight o us x))
          ≡ (if c then (if s then times o (w g) (equality_weight o us l) else 0) else 0)) [
            | true ↦
                sum-same o K _ _ (λ x _. ap (λ b. times o (if b then w g else 0) (equality_weight o us x)) (same_places K x y l r ly low_r ∙ turned (x == l) c))
                ∙ picked K l c (w g) (equality_weight o us) low_l
            | false ↦ never o ring K (equality_weight o us) ∙ nothing c
          ] where
            turned : (a b : Bool) → (a && b) ≡ (b && a)
            turned true true = refl
            turned true false = refl
            turned false true = refl
            turned false false = refl

            nothing : (c : Bool) → ◌≡◌ {A = ℕ} 0 (if c then 0 else 0)
            nothing true = refl
            nothing false = refl

      pub rows-walk : (product : Bool) (g : ℕ) (gates : List Gate) (y : ℕ) → PlacesBelow (2 ^ k) gates → y < 2 ^ k →
          row_at o k (gate_weights o product w k g gates) us y ≡ shares_at o (λ gate. gate.right) (row_share o product w us) g gates y
      unfolding row_at value gate_weights shares_at Agree
      rows-walk product g [] y places ly =
          sum-same o (2 ^ length us) _ _ (λ x _. identity o ring (equality_weight o us x ∷ []) (nought ⊗ atom 0) nought tt tt refl) ∙ sum-none o ring (2 ^ length us)
      rows-walk product g (gate ∷ gates) y places ly =
          let K = 2 ^ k in
          let A : ℕ → ℕ = λ x. if is_gate_at product k (x * K + y) gate then w g else 0 in
          let S : ℕ → ℕ = λ x. gate_weights o product w k (suc g) gates (x * K + y) in
          let N = 2 ^ length us in
          let many : N ≡ K = ap (λ n. 2 ^ n) size in
          sum-same o N _ _ (λ x _. identity o ring (A x ∷ S x ∷ equality_weight o us x ∷ []) ((atom 0 ⊕ atom 1) ⊗ atom 2) (atom 0 ⊗ atom 2 ⊕ atom 1 ⊗ atom 2) tt tt refl)
          ∙ sym (sum-plus o ring N (λ x. times o (A x) (equality_weight o us x)) (λ x. times o (S x) (equality_weight o us x)))
          ∙ ap (λ n. plus o n (sum_below o N (λ x. times o (S x) (equality_weight o us x)))) (ap (λ n. sum_below o n (λ x. times o (A x) (equality_weight o us x))) many ∙ one-row product g gate y places.0 places.1 ly)
          ∙ ap (plus o (if y == gate.right then row_share o product w us g gate else 0)) (rows-walk product (suc g) gates y places.2 ly)

    pub walks-make_phases : (gates : List Gate) → PlacesBelow (2 ^ k) gates → WalksMakePhases o k w v gates
    walks-make_phases gates places = record {
      factors = λ x. factors-walk 0 gates x places;
      rests = λ x. rests-walk 0 gates x places;
      rows = λ product us y size low. rows-walk us size product 0 gates y places low;
    }
