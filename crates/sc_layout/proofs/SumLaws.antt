-- Batches of values, one value after the other.
use Rattle.std.proofs.Common.{◌≡◌, ℕ, suc, ◌+◌, ◌<◌, List, [], ◌∷◌, ◌++◌, length, map, take, get_or, sym, ◌∙◌, ap, arith, length-append}
use Rattle.std.proofs.lemmas.List.{take_more, map-append, append_assoc}
use Rattle.sc_definitions.specs.Ring.{Ops, IsRing, plus, times, power}
use Rattle.sc_definitions.specs.Statements.{batched_by_powers}
use Rattle.sc_definitions.proofs.RingLaws.{times_comm}
use Rattle.sc_definitions.proofs.StatementLaws.{batched_by_powers-append}
use Rattle.sc_layout.specs.declared.sums.BatchedSum.{BatchedSum}
use Rattle.sc_layout.specs.Sums.{IsBatchOf}

module _ {EF : Type 0} (o : Ops) (ring : IsRing o) (number : EF → ℕ) where
  -- no value
  pub batch-none : (c : EF) (s : BatchedSum EF) → s.challenge ≡ c → number s.power ≡ 1 → number s.sum ≡ 0 → IsBatchOf o number (number c) [] s
  unfolding power batched_by_powers
  batch-none c s same one none = record { challenge_is = ap number same; power_is = one; sum_is = none }

  -- one value more
  pub batch-more : (a : ℕ) (xs : List ℕ) (x : ℕ) (s t : BatchedSum EF) → t.challenge ≡ s.challenge → number t.power ≡ times o (number s.power) (number s.challenge) →
      number t.sum ≡ plus o (number s.sum) (times o (number s.power) x) → IsBatchOf o number a xs s → IsBatchOf o number a (xs ++ x ∷ []) t
  unfolding power
  batch-more a xs x s t same power_more sum_more before =
      let none : length xs ≡ 0 + length xs = omega arith in
      let more : length (xs ++ x ∷ []) ≡ suc (length xs) = omega (arith, length-append xs (x ∷ [])) in
      record {
        challenge_is = ap number same ∙ before.challenge_is;
        power_is = power_more ∙ ap (λ p. times o p (number s.challenge)) before.power_is ∙ ap (times o (power o a (length xs))) before.challenge_is
            ∙ times_comm o ring (power o a (length xs)) a ∙ ap (power o a) (sym more);
        sum_is = sum_more ∙ ap (λ v. plus o v (times o (number s.power) x)) before.sum_is ∙ ap (λ p. plus o (batched_by_powers o a 0 xs) (times o p x)) before.power_is
            ∙ ap (λ k. plus o (batched_by_powers o a 0 xs) (times o (power o a k) x)) none ∙ sym (batched_by_powers-append o ring a 0 xs x);
      }

-- ---- values that are read off a list

-- the first i + 1 items, by the first i and the one after them
pub read-more : {X Y : Type 0} (f : X → Y) (xs : List X) (i : ℕ) (x : X) → i < length xs → x ≡ get_or xs i x →
    map f (take (i + 1) xs) ≡ map f (take i xs) ++ f x ∷ []
read-more f xs i x low is =
    ap (map f) (take_more xs i x low ∙ ap (λ y. take i xs ++ y ∷ []) (sym is)) ∙ map-append f (take i xs) (x ∷ [])

-- items after others, one more
pub values-more : {X Y : Type 0} (f : X → Y) (xs : List X) (before : List Y) (i : ℕ) (x : X) → i < length xs → x ≡ get_or xs i x →
    before ++ map f (take (i + 1) xs) ≡ (before ++ map f (take i xs)) ++ f x ∷ []
values-more f xs before i x low is =
    ap (λ ys. before ++ ys) (read-more f xs i x low is) ∙ sym (append_assoc before (map f (take i xs)) (f x ∷ []))
