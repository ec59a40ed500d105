-- The last challenges as a point, and the sum over constraints.
use Rattle.std.proofs.Common.{◌≡◌, ℕ, suc, ◌+◌, ◌-◌, ◌<◌, ◌≤◌, List, [], ◌∷◌, ◌++◌, length, reverse, get_or, Result, Ok, Err, IfOk, drop, map, sym, ◌∙◌, ap, refl, arith, add-one}
use Rattle.std.proofs.lemmas.List.{length-map, map-append, length-append, length-reverse, reverse-append, drop_at, drop_all}
use Rattle.std.proofs.Math.Seq.{drop-cons}
use Rattle.sc_definitions.specs.Ring.{Ops, IsRing, plus, element}
use Rattle.sc_definitions.proofs.RingLaws.{plus-zero, plus_assoc, plus_comm, element-small, element-plus, element-zero}
use Rattle.sc_constraints.specs.declared.constraint.Constraint.{Constraint}
use Rattle.sc_definitions.specs.Tables.{Order, value, point_of}
use Rattle.sc_definitions.specs.Statements.{batched_weight}
use Rattle.sc_constraints.specs.Constraints.{constraint_arity, constraint_challenge, constraint_power, constraint_statements}
use Rattle.sc_constraints.specs.ConstraintValues.{last_of, constraint_value, constraints_value}

-- the second part of a list of challenges is the last of them
pub last_part : {X : Type 0} (number : X → ℕ) (front back all : List X) (k : ℕ) → k ≤ length all → length front ≡ length all - k → front ++ back ≡ all →
    last_of k (map number all) ≡ map number back
last_part number front back all k low size joined =
    let whole : map number all ≡ map number front ++ map number back = ap (map number) (sym joined) ∙ map-append number front back in
    let skipped : length (map number front) ≡ length (map number all) - k = length-map front number ∙ size ∙ ap (λ n. n - k) (sym (length-map all number)) in
    ap (drop (length (map number all) - k)) whole ∙ drop_at (map number front) (map number back) (length (map number all) - k) skipped

pub part_size : {X : Type 0} (front back all : List X) (k : ℕ) → k ≤ length all → length front ≡ length all - k → front ++ back ≡ all → length back ≡ k
part_size front back all k low size joined = omega (arith, low, size, length-append front back, ap length joined)

-- the other way round
map-reverse : {X : Type 0} (number : X → ℕ) (xs : List X) → map number (reverse xs) ≡ reverse (map number xs)
map-reverse number [] = refl
map-reverse number (x ∷ xs) =
    ap (map number) (reverse-append (x ∷ []) xs) ∙ map-append number (reverse xs) (x ∷ []) ∙ ap (λ t. t ++ number x ∷ []) (map-reverse number xs)
    ∙ sym (reverse-append (number x ∷ []) (map number xs))

pub reversed_part : {X E : Type 0} (number : X → ℕ) (result : Result (List X) E) (back : List X) (ns : List ℕ) → IfOk result (λ p. p ≡ reverse back) → ns ≡ map number back →
    IfOk result (λ p. map number p ≡ reverse ns)
reversed_part number (Ok p) back ns is same = ap (map number) is ∙ map-reverse number back ∙ ap reverse (sym same)
reversed_part number (Err e) back ns is same = tt

-- and then it has as many coordinates
pub reversed_size : {X E : Type 0} (result : Result (List X) E) (back : List X) (k : ℕ) → IfOk result (λ p. p ≡ reverse back) → length back ≡ k → IfOk result (λ p. length p ≡ k)
reversed_size (Ok p) back k is size = ap length is ∙ length-reverse back ∙ size
reversed_size (Err e) back k is size = tt

-- what is left of a number is no more
pub rest_within : (a b k : ℕ) → a ≡ b → a - k ≤ b
rest_within a b k same = omega arith

module _ {F EF : Type 0} (o : Ops) (ring : IsRing o) (of : F → ℕ) (number : EF → ℕ) (order : Order) (rs : List ℕ) where
  element-values : (cs : List (Constraint F EF)) → element o (constraints_value o of number order rs cs) ≡ constraints_value o of number order rs cs
  element-values [] = element-zero o ring
  element-values (c ∷ cs) = element-plus o ring _ _

  pub value_at : (c : Constraint F EF) (k v : ℕ) (zs : List ℕ) →
      v ≡ value o (batched_weight o (constraint_challenge number c) (constraint_power c) (constraint_statements of number c)) zs →
      zs ≡ point_of order (last_of k rs) → k ≡ constraint_arity c → v ≡ constraint_value o of number order rs c
  value_at c k v zs is point size =
      let weights = batched_weight o (constraint_challenge number c) (constraint_power c) (constraint_statements of number c) in
      is ∙ ap (value o weights) (point ∙ ap (λ n. point_of order (last_of n rs)) size)

  -- nothing is summed yet
  pub values-none : (cs all : List (Constraint F EF)) (sum : ℕ) → cs ≡ all → sum ≡ 0 → plus o sum (constraints_value o of number order rs cs) ≡ constraints_value o of number order rs all
  values-none cs all sum same none =
      let v = constraints_value o of number order rs cs in
      ap (λ z. plus o z v) none ∙ plus_comm o ring 0 v ∙ plus-zero o ring v ∙ element-values cs ∙ ap (constraints_value o of number order rs) same

  -- one constraint more
  pub values-more : (cs all : List (Constraint F EF)) (i : ℕ) (c : Constraint F EF) (sum sum' v : ℕ) →
      plus o sum (constraints_value o of number order rs (drop i cs)) ≡ constraints_value o of number order rs all → i < length cs → c ≡ get_or cs i c →
      v ≡ constraint_value o of number order rs c → sum' ≡ plus o sum v →
      plus o sum' (constraints_value o of number order rs (drop (i + 1) cs)) ≡ constraints_value o of number order rs all
  values-more cs all i c sum sum' v so_far low at value_is sum_is =
      let rest = constraints_value o of number order rs (drop (i + 1) cs) in
      let split : drop i cs ≡ c ∷ drop (i + 1) cs =
      drop-cons cs i c low ∙ ap (λ y. y ∷ drop (suc i) cs) (sym at) ∙ ap (λ k. c ∷ drop k cs) (sym (add-one i)) in
      ap (λ s. plus o s rest) (sum_is ∙ ap (plus o sum) value_is)
      ∙ plus_assoc o ring sum (constraint_value o of number order rs c) rest
      ∙ ap (λ l. plus o sum (constraints_value o of number order rs l)) (sym split) ∙ so_far

  -- all are summed
  pub values-end : (cs all : List (Constraint F EF)) (i sum : ℕ) → plus o sum (constraints_value o of number order rs (drop i cs)) ≡ constraints_value o of number order rs all →
      length cs ≤ i → sum < o.size → sum ≡ constraints_value o of number order rs all
  values-end cs all i sum so_far past small =
      sym (ap (λ l. plus o sum (constraints_value o of number order rs l)) (drop_all i cs past) ∙ plus-zero o ring sum ∙ element-small o ring sum small) ∙ so_far
