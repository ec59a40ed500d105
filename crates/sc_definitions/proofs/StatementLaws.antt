-- The batch of several statements, one statement after the other.
use Rattle.std.proofs.Common.{◌≡◌, ◌≢◌, ℕ, suc, ◌^◌, ◌<◌, ◌+◌, Some, None, List, [], ◌∷◌, ◌++◌, length, map, if◌then◌else◌, sym, ◌∙◌, ap, refl, arith, eq-eqb, ne_eqb}
use Rattle.std.proofs.lemmas.List.{length-map, map-append}
use Rattle.sc_definitions.specs.Ring.{Ops, IsRing, element, plus, times, power}
use Rattle.sc_definitions.specs.Tables.{value, inner_product}
use Rattle.sc_definitions.specs.Statements.{equality, Statement, weight_of, true_value, is_true_of, first_false_claim, batched_by_powers, batched_weight, batched_claim}
use Rattle.sc_definitions.proofs.RingLaws.{element-plus, element-times, element-zero, plus_assoc, plus_comm, plus-zero, times-plus}
use Rattle.sc_definitions.proofs.Sums.{sum-same, sum-plus}

module _ (o : Ops) (ring : IsRing o) where
  pub element-batched_by_powers : (c p : ℕ) (xs : List ℕ) → element o (batched_by_powers o c p xs) ≡ batched_by_powers o c p xs
  unfolding batched_by_powers
  element-batched_by_powers c p [] = element-zero o ring
  element-batched_by_powers c p (x ∷ xs) = element-plus o ring (times o (power o c p) x) (batched_by_powers o c (suc p) xs)

  -- one value more at the end
  pub batched_by_powers-append : (c p : ℕ) (xs : List ℕ) (x : ℕ) →
      batched_by_powers o c p (xs ++ x ∷ []) ≡ plus o (batched_by_powers o c p xs) (times o (power o c (p + length xs)) x)
  unfolding batched_by_powers
  batched_by_powers-append c p [] x =
      let t = times o (power o c p) x in
      let same : p ≡ p + 0 = omega arith in
      plus-zero o ring t ∙ element-times o ring (power o c p) x ∙ sym (plus_comm o ring 0 t ∙ plus-zero o ring t ∙ element-times o ring (power o c p) x)
      ∙ ap (λ k. plus o 0 (times o (power o c k) x)) same
  batched_by_powers-append c p (y ∷ xs) x =
      let more : suc p + length xs ≡ p + suc (length xs) = omega arith in
      ap (plus o (times o (power o c p) y)) (batched_by_powers-append c (suc p) xs x)
      ∙ sym (plus_assoc o ring (times o (power o c p) y) (batched_by_powers o c (suc p) xs) (times o (power o c (suc p + length xs)) x))
      ∙ ap (λ k. plus o (plus o (times o (power o c p) y) (batched_by_powers o c (suc p) xs)) (times o (power o c k) x)) more

-- ---- the first false statement, found one after the other

pub first_false_claim-true : (o : Ops) (n : ℕ) (f : ℕ → ℕ) (i : ℕ) (s : Statement) (ss : List Statement) →
    true_value o n f s.kind ≡ s.claimed → first_false_claim o n f i (s ∷ ss) ≡ first_false_claim o n f (suc i) ss
unfolding first_false_claim is_true_of
first_false_claim-true o n f i s ss e =
    ap (λ b. if b then first_false_claim o n f (suc i) ss else Some (record { statement = i; claimed = s.claimed; actual = true_value o n f s.kind }))
    (eq-eqb _ _ e)

pub first_false_claim-false : (o : Ops) (n : ℕ) (f : ℕ → ℕ) (i : ℕ) (s : Statement) (ss : List Statement) →
    true_value o n f s.kind ≢ s.claimed →
    first_false_claim o n f i (s ∷ ss) ≡ Some (record { statement = i; claimed = s.claimed; actual = true_value o n f s.kind })
unfolding first_false_claim is_true_of
first_false_claim-false o n f i s ss e =
    ap (λ b. if b then first_false_claim o n f (suc i) ss else Some (record { statement = i; claimed = s.claimed; actual = true_value o n f s.kind }))
    (ne_eqb _ _ e)

pub first_false_claim-none : (o : Ops) (n : ℕ) (f : ℕ → ℕ) (i : ℕ) → first_false_claim o n f i [] ≡ None
unfolding first_false_claim
first_false_claim-none o n f i = refl

-- ---- what a statement's value is

-- the true value of an equality statement is the table's value at its point
pub true_value-equality : (o : Ops) (f : ℕ → ℕ) (zs : List ℕ) → true_value o (length zs) f (equality zs) ≡ value o f zs
unfolding true_value inner_product weight_of value
true_value-equality o f zs = refl

-- the batched weights of one equality statement more
pub batched_weight-append : (o : Ops) → IsRing o → (c p : ℕ) (ss : List Statement) (s : Statement) (b : ℕ) →
    batched_weight o c p (ss ++ s ∷ []) b ≡ plus o (batched_weight o c p ss b) (times o (power o c (p + length ss)) (weight_of o s.kind b))
unfolding batched_weight
batched_weight-append o ring c p ss s b =
    let one = λ (t : Statement). weight_of o t.kind b in
    ap (batched_by_powers o c p) (map-append one ss (s ∷ []))
    ∙ batched_by_powers-append o ring c p (map one ss) (weight_of o s.kind b)
    ∙ ap (λ k. plus o (batched_by_powers o c p (map one ss)) (times o (power o c (p + k)) (weight_of o s.kind b))) (length-map ss one)

-- the batched claim of one statement more
pub batched_claim-append : (o : Ops) → IsRing o → (c p : ℕ) (ss : List Statement) (s : Statement) →
    batched_claim o c p (ss ++ s ∷ []) ≡ plus o (batched_claim o c p ss) (times o (power o c (p + length ss)) s.claimed)
unfolding batched_claim
batched_claim-append o ring c p ss s =
    let one = λ (t : Statement). t.claimed in
    ap (batched_by_powers o c p) (map-append one ss (s ∷ []))
    ∙ batched_by_powers-append o ring c p (map one ss) s.claimed
    ∙ ap (λ k. plus o (batched_by_powers o c p (map one ss)) (times o (power o c (p + k)) s.claimed)) (length-map ss one)

-- a batch of no statement
pub batched-none : (o : Ops) (c p b : ℕ) → (batched_weight o c p [] b ≡ 0) × (batched_claim o c p [] ≡ 0)
unfolding batched_weight batched_claim batched_by_powers
batched-none o c p b = (refl, refl)

-- ---- weights in two parts

module _ (o : Ops) (ring : IsRing o) where
  -- the sum over the rows with weights in two parts
  pub inner_product-parts_of : (n : ℕ) (f w v w' : ℕ → ℕ) → ((b : ℕ) → b < 2 ^ n → w' b ≡ plus o (w b) (v b)) → inner_product o n f w' ≡ plus o (inner_product o n f w) (inner_product o n f v)
  unfolding inner_product
  inner_product-parts_of n f w v w' more =
      sum-same o (2 ^ n) _ _ (λ b low. ap (times o (f b)) (more b low) ∙ times-plus o ring (f b) (w b) (v b))
      ∙ sym (sum-plus o ring (2 ^ n) (λ b. times o (f b) (w b)) (λ b. times o (f b) (v b)))
