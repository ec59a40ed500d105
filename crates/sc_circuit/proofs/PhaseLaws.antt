-- The tables of the two halves of a layer's rounds, as walks over the gates make them.
use Rattle.std.proofs.Common.{◌≡◌, ℕ, suc, ◌+◌, ◌-◌, ◌*◌, ◌%◌, ◌<◌, ◌≤◌, ◌^◌, ◌==◌, Bool, true, false, List, [], ◌∷◌, All, length, if◌then◌else◌, sym, ◌∙◌, ap, refl, arith, pow-suc}
use Rattle.std.proofs.Math.Pow.{pow_mono}
use Rattle.sc_definitions.specs.Ring.{Ops, IsRing, element, plus, times}
use Rattle.sc_definitions.specs.Tables.{value, equality_weight}
use Rattle.sc_definitions.proofs.RingLaws.{element-zero, element-plus, plus_comm, plus-zero, times-one}
use Rattle.sc_definitions.proofs.SuccessorLaws.{element-weight}
use Rattle.sc_definitions.proofs.Identity.{atom, nought, unit, ◌⊕◌, ◌⊗◌, Agree, identity}
use Rattle.sc_circuit_definitions.specs.declared.gate.Gate.{Gate}
use Rattle.sc_circuit_definitions.specs.Circuits.{PlacesBelow, is_same_kind, gate_weights}
use Rattle.sc_circuit_definitions.specs.LayerRounds.{gate_tables}
use Rattle.sc_circuit_definitions.specs.LayerPhases.{Phase, first_phase, row_at, second_factor, second_rest, second_phase, shares_at, factor_share, rest_share, row_share}
use Rattle.sc_circuit_definitions.proofs.WalkLaws.{factors-walk, rests-walk, rows-walk}
use Rattle.sc_circuit.specs.Phases.{SameRows, given_factor, given_rest, second_factor_share, second_rest_share}
use Rattle.sc_circuit.proofs.ShapeLaws.{shifted}

-- ---- sizes

-- half of the rows that stand, twice, are not more than all
pub half-twice : (left variables n : ℕ) → 0 < left → left ≤ variables → variables ≤ 8 → n ≡ 2 ^ variables →
    (1 * 2 ^ (left - 1)) % 18446744073709551616 + (1 * 2 ^ (left - 1)) % 18446744073709551616 ≤ n
half-twice left variables n some within few size =
    let m = left - 1 in
    let one : suc m ≡ left = omega (arith, some) in
    let at = shifted m (omega (arith, some, within, few)) in
    let both : 2 ^ suc m ≡ 2 ^ m + 2 ^ m = pow-suc 2 m ∙ omega arith in
    let whole : 2 ^ suc m ≤ 2 ^ variables = pow_mono {i = suc m} {j = variables} (omega (arith, one, within)) in
    omega (arith, at, both, whole, size)

-- each gate of a list names places below a number
pub places-below : (n : ℕ) (gates : List Gate) → All (λ gate. gate.left < n) gates → All (λ gate. gate.right < n) gates → PlacesBelow n gates
places-below n [] left right = tt
places-below n (gate ∷ gates) left right = (
  left 0 gate (omega arith),
  right 0 gate (omega arith),
  places-below n gates (λ k d low. left (suc k) d (omega (arith, low))) (λ k d low. right (suc k) d (omega (arith, low))),
)

module _ (o : Ops) (ring : IsRing o) where
  -- equality weights that are added once to nothing
  pub weights-alone : (zs : List ℕ) (b y z s : ℕ) → y ≡ plus o z (times o s (equality_weight o zs b)) → z ≡ 0 → s ≡ 1 → y ≡ equality_weight o zs b
  unfolding Agree
  weights-alone zs b y z s is none one =
      let w = equality_weight o zs b in
      is ∙ ap (λ n. plus o n (times o s w)) none ∙ ap (λ n. plus o 0 (times o n w)) one
      ∙ identity o ring (w ∷ []) (nought ⊕ unit ⊗ atom 0) (atom 0 ⊗ unit) tt tt refl ∙ times-one o ring w ∙ element-weight o ring zs b

  element-shares : (place : Gate → ℕ) (share : ℕ → Gate → ℕ) (g : ℕ) (gates : List Gate) (x : ℕ) → element o (shares_at o place share g gates x) ≡ shares_at o place share g gates x
  unfolding shares_at
  element-shares place share g [] x = element-zero o ring
  element-shares place share g (gate ∷ gates) x = element-plus o ring _ _

  -- shares that are added to nothing
  alone : (place : Gate → ℕ) (share : ℕ → Gate → ℕ) (gates : List Gate) (x y z : ℕ) → y ≡ plus o z (shares_at o place share 0 gates x) → z ≡ 0 → y ≡ shares_at o place share 0 gates x
  alone place share gates x y z is none =
      let S = shares_at o place share 0 gates x in
      is ∙ ap (λ k. plus o k S) none ∙ plus_comm o ring 0 S ∙ plus-zero o ring S ∙ element-shares place share 0 gates x

  -- ---- the first half

  module _ (k : ℕ) (w v : ℕ → ℕ) (gates : List Gate) (places : PlacesBelow (2 ^ k) gates) where
    pub first-begun : (p : Phase) (f r : ℕ → ℕ) →
        ((b : ℕ) → b < 2 ^ k → p.values b ≡ v b) →
        ((b : ℕ) → b < 2 ^ k → f b ≡ 0) → ((b : ℕ) → b < 2 ^ k → r b ≡ 0) →
        ((b : ℕ) → b < 2 ^ k → p.factors b ≡ plus o (f b) (shares_at o (λ gate. gate.left) (factor_share o w v) 0 gates b)) →
        ((b : ℕ) → b < 2 ^ k → p.rests b ≡ plus o (r b) (shares_at o (λ gate. gate.left) (rest_share o w v) 0 gates b)) →
        SameRows (2 ^ k) p (first_phase o (gate_tables o k w v gates))
    first-begun p f r values no_factors no_rests factors rests = record {
      values = values;
      factors = λ b low. alone (λ gate. gate.left) (factor_share o w v) gates b (p.factors b) (f b) (factors b low) (no_factors b low)
          ∙ sym (factors-walk o ring k w v 0 gates b places);
      rests = λ b low. alone (λ gate. gate.left) (rest_share o w v) gates b (p.rests b) (r b) (rests b low) (no_rests b low)
          ∙ sym (rests-walk o ring k w v 0 gates b places);
    }

    -- ---- the second half

    module _ (us : List ℕ) (size : length us ≡ k) (points : ℕ → ℕ) (weights : (b : ℕ) → b < 2 ^ k → points b ≡ equality_weight o us b) (V : ℕ) (at : V ≡ value o v us) where
      factor-by : (p c : Bool) (a b : ℕ) →
          (if c then (if p then times o (times o a b) V else times o a b) else 0)
          ≡ plus o (if c then (if is_same_kind p false then times o a b else 0) else 0) (times o (if c then (if is_same_kind p true then times o a b else 0) else 0) V)
      unfolding Agree
      factor-by true true a b = identity o ring (a ∷ b ∷ V ∷ []) ((atom 0 ⊗ atom 1) ⊗ atom 2) (nought ⊕ (atom 0 ⊗ atom 1) ⊗ atom 2) tt tt refl
      factor-by true false a b = identity o ring (V ∷ []) nought (nought ⊕ nought ⊗ atom 0) tt tt refl
      factor-by false true a b = identity o ring (a ∷ b ∷ V ∷ []) (atom 0 ⊗ atom 1) ((atom 0 ⊗ atom 1) ⊕ nought ⊗ atom 2) tt tt refl
      factor-by false false a b = identity o ring (V ∷ []) nought (nought ⊕ nought ⊗ atom 0) tt tt refl

      rest-by : (p c : Bool) (a b : ℕ) →
          (if c then (if p then 0 else times o (times o a b) V) else 0) ≡ times o (if c then (if is_same_kind p false then times o a b else 0) else 0) V
      unfolding Agree
      rest-by true true a b = identity o ring (V ∷ []) nought (nought ⊗ atom 0) tt tt refl
      rest-by true false a b = identity o ring (V ∷ []) nought (nought ⊗ atom 0) tt tt refl
      rest-by false true a b = refl
      rest-by false false a b = identity o ring (V ∷ []) nought (nought ⊗ atom 0) tt tt refl

      second-factors : (g : ℕ) (gates : List Gate) (y : ℕ) → PlacesBelow (2 ^ k) gates →
          shares_at o (λ gate. gate.right) (second_factor_share o w points V) g gates y
          ≡ plus o (shares_at o (λ gate. gate.right) (row_share o false w us) g gates y) (times o (shares_at o (λ gate. gate.right) (row_share o true w us) g gates y) V)
      unfolding shares_at given_factor row_share Agree
      second-factors g [] y places = identity o ring (V ∷ []) nought (nought ⊕ nought ⊗ atom 0) tt tt refl
      second-factors g (gate ∷ gates) y places =
          let c = y == gate.right in
          let p = gate.product in
          let a = w g in
          let b = equality_weight o us gate.left in
          let A = if c then (if is_same_kind p false then times o a b else 0) else 0 in
          let B = if c then (if is_same_kind p true then times o a b else 0) else 0 in
          let S = shares_at o (λ gate. gate.right) (row_share o false w us) (suc g) gates y in
          let P = shares_at o (λ gate. gate.right) (row_share o true w us) (suc g) gates y in
          let rest = shares_at o (λ gate. gate.right) (second_factor_share o w points V) (suc g) gates y in
          ap (λ n. plus o (if c then (if p then times o (times o a n) V else times o a n) else 0) rest) (weights gate.left places.0)
          ∙ ap (λ n. plus o n rest) (factor-by p c a b)
          ∙ ap (plus o (plus o A (times o B V))) (second-factors (suc g) gates y places.2)
          ∙ identity o ring (A ∷ B ∷ S ∷ P ∷ V ∷ []) ((atom 0 ⊕ atom 1 ⊗ atom 4) ⊕ (atom 2 ⊕ atom 3 ⊗ atom 4)) ((atom 0 ⊕ atom 2) ⊕ (atom 1 ⊕ atom 3) ⊗ atom 4) tt tt refl

      second-rests : (g : ℕ) (gates : List Gate) (y : ℕ) → PlacesBelow (2 ^ k) gates →
          shares_at o (λ gate. gate.right) (second_rest_share o w points V) g gates y ≡ times o (shares_at o (λ gate. gate.right) (row_share o false w us) g gates y) V
      unfolding shares_at given_rest row_share Agree
      second-rests g [] y places = identity o ring (V ∷ []) nought (nought ⊗ atom 0) tt tt refl
      second-rests g (gate ∷ gates) y places =
          let c = y == gate.right in
          let p = gate.product in
          let a = w g in
          let b = equality_weight o us gate.left in
          let A = if c then (if is_same_kind p false then times o a b else 0) else 0 in
          let S = shares_at o (λ gate. gate.right) (row_share o false w us) (suc g) gates y in
          let rest = shares_at o (λ gate. gate.right) (second_rest_share o w points V) (suc g) gates y in
          ap (λ n. plus o (if c then (if p then 0 else times o (times o a n) V) else 0) rest) (weights gate.left places.0)
          ∙ ap (λ n. plus o n rest) (rest-by p c a b)
          ∙ ap (plus o (times o A V)) (second-rests (suc g) gates y places.2)
          ∙ identity o ring (A ∷ S ∷ V ∷ []) ((atom 0 ⊗ atom 2) ⊕ (atom 1 ⊗ atom 2)) ((atom 0 ⊕ atom 1) ⊗ atom 2) tt tt refl

      rows-are : (product : Bool) (y : ℕ) → y < 2 ^ k → shares_at o (λ gate. gate.right) (row_share o product w us) 0 gates y ≡ row_at o k (gate_weights o product w k 0 gates) us y
      rows-are product y low = sym (rows-walk o ring k w v us size product 0 gates y places low)

      pub second-begun : (p : Phase) (f r : ℕ → ℕ) →
          ((b : ℕ) → b < 2 ^ k → p.values b ≡ v b) →
          ((b : ℕ) → b < 2 ^ k → f b ≡ 0) → ((b : ℕ) → b < 2 ^ k → r b ≡ 0) →
          ((b : ℕ) → b < 2 ^ k → p.factors b ≡ plus o (f b) (shares_at o (λ gate. gate.right) (second_factor_share o w points V) 0 gates b)) →
          ((b : ℕ) → b < 2 ^ k → p.rests b ≡ plus o (r b) (shares_at o (λ gate. gate.right) (second_rest_share o w points V) 0 gates b)) →
          SameRows (2 ^ k) p (second_phase o (gate_tables o k w v gates) us)
      unfolding second_factor second_rest
      second-begun p f r values no_factors no_rests factors rests =
          let S : ℕ → ℕ = row_at o k (gate_weights o false w k 0 gates) us in
          let P : ℕ → ℕ = row_at o k (gate_weights o true w k 0 gates) us in
          let s : ℕ → ℕ = λ b. shares_at o (λ gate. gate.right) (row_share o false w us) 0 gates b in
          let q : ℕ → ℕ = λ b. shares_at o (λ gate. gate.right) (row_share o true w us) 0 gates b in
          record {
            values = values;
            factors = λ b low. alone (λ gate. gate.right) (second_factor_share o w points V) gates b (p.factors b) (f b) (factors b low) (no_factors b low)
                ∙ second-factors 0 gates b places
                ∙ ap (λ n. plus o n (times o (q b) V)) (rows-are false b low)
                ∙ ap (λ n. plus o (S b) (times o n V)) (rows-are true b low)
                ∙ ap (λ n. plus o (S b) (times o (P b) n)) at;
            rests = λ b low. alone (λ gate. gate.right) (second_rest_share o w points V) gates b (p.rests b) (r b) (rests b low) (no_rests b low)
                ∙ second-rests 0 gates b places
                ∙ ap (λ n. times o n V) (rows-are false b low)
                ∙ ap (times o (S b)) at;
          }
