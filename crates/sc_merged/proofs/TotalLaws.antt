-- Sums over tables with weights, one after the other.
use Rattle.std.proofs.Common.{◌≡◌, ℕ, zero, suc, ◌+◌, ◌<◌, ◌≤◌, List, [], ◌∷◌, length, map, take, get_or, refl, sym, ◌∙◌, ap, arith}
use Rattle.std.proofs.lemmas.List.{length-map, take_all}
use Rattle.sc_definitions.specs.Ring.{Ops, IsRing, plus}
use Rattle.sc_definitions.specs.Tables.{evaluation, prefix, inner_product}
use Rattle.sc_definitions.specs.Messages.{message_first, message_leading}
use Rattle.sc_definitions.proofs.RingLaws.{plus_comm, plus_assoc}
use Rattle.sc_soundness.specs.Merged.{WeightedTable, merged_inner, merged_message_first, merged_message_leading}

-- the sum of what each gives
unfoldable pub total : Ops → (WeightedTable → ℕ) → List WeightedTable → ℕ
total o f [] = 0
total o f (p ∷ ps) = plus o (f p) (total o f ps)

pub total-none : (o : Ops) (f : WeightedTable → ℕ) (ps : List WeightedTable) → total o f (take 0 ps) ≡ 0
unfolding total
total-none o f [] = refl
total-none o f (p ∷ ps) = refl

-- one more
pub total-next : {X : Type 0} (o : Ops) → IsRing o → (f : WeightedTable → ℕ) (of : X → WeightedTable) (xs : List X) (i : ℕ) (x : X) → i < length xs → x ≡ get_or xs i x →
    total o f (take (i + 1) (map of xs)) ≡ plus o (total o f (take i (map of xs))) (f (of x))
unfolding total
total-next o ring f of [] i x low is = absurd (omega (arith, low))
total-next o ring f of (y ∷ xs) zero x low is = plus_comm o ring (f (of y)) 0 ∙ ap (λ z. plus o 0 (f (of z))) (sym is)
total-next o ring f of (y ∷ xs) (suc i) x low is =
    let next : suc i + 1 ≡ suc (i + 1) = omega arith in
    ap (λ k. total o f (take k (map of (y ∷ xs)))) next
    ∙ ap (plus o (f (of y))) (total-next o ring f of xs i x (omega (arith, low)) is)
    ∙ sym (plus_assoc o ring (f (of y)) (total o f (take i (map of xs))) (f (of x)))

-- all of them
pub total-all : {X : Type 0} (o : Ops) (f : WeightedTable → ℕ) (of : X → WeightedTable) (xs : List X) (i : ℕ) → length xs ≤ i →
    total o f (take i (map of xs)) ≡ total o f (map of xs)
total-all o f of xs i all = ap (total o f) (take_all i (map of xs) (omega (arith, length-map xs of, all)))

pub inner_product-total : (o : Ops) (n : ℕ) (ps : List WeightedTable) → total o (λ p. inner_product o n p.table p.weights) ps ≡ merged_inner o n ps
unfolding total merged_inner
inner_product-total o n [] = refl
inner_product-total o n (p ∷ ps) = ap (plus o (inner_product o n p.table p.weights)) (inner_product-total o n ps)

pub first-total : (o : Ops) (half : ℕ) (ps : List WeightedTable) → total o (λ p. message_first evaluation prefix o half p.table p.weights) ps ≡ merged_message_first o half ps
unfolding total merged_message_first
first-total o half [] = refl
first-total o half (p ∷ ps) = ap (plus o (message_first evaluation prefix o half p.table p.weights)) (first-total o half ps)

pub leading-total : (o : Ops) (half : ℕ) (ps : List WeightedTable) →
    total o (λ p. message_leading evaluation prefix o half p.table p.weights) ps ≡ merged_message_leading o half ps
unfolding total merged_message_leading
leading-total o half [] = refl
leading-total o half (p ∷ ps) = ap (plus o (message_leading evaluation prefix o half p.table p.weights)) (leading-total o half ps)

-- the two values of a message
pub both : (a b c d : ℕ) → a ∷ b ∷ [] ≡ c ∷ d ∷ [] → (a ≡ c) × (b ≡ d)
both a b c d is = (let first : a ≡ c = cc in first, let second : b ≡ d = cc in second)
