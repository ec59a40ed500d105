-- The value of a slice's table at a slice of coordinates, by halves.
use Rattle.std.proofs.Common.{◌≡◌, ℕ, suc, ◌+◌, ◌-◌, ◌*◌, ◌/◌, ◌^◌, ◌<◌, ◌≤◌, List, [], ◌∷◌, length, get_or, take, drop, map, sym, ◌∙◌, ap, arith}
use Rattle.std.proofs.lemmas.List.{take_all, length-map, take_rest}
use Rattle.std.proofs.Math.Nat.{pow-suc}
use Rattle.sc_definitions.specs.Ring.{Ops, IsRing, element, plus, times, minus}
use Rattle.sc_definitions.specs.Tables.{entries, value, bound}
use Rattle.sc_definitions.proofs.RingLaws.{element-plus}
use Rattle.sc_definitions.proofs.TableLaws.{value-bound, value-line, value-none}
use Rattle.sc_table.proofs.EntryLaws.{entry-take, entry-drop}

module _ (o : Ops) (ring : IsRing o) where
  pub value-at_none : {E : Type 0} (number : E → ℕ) (f : ℕ → ℕ) (zs : List E) → length zs < 1 → value o f (map number zs) ≡ element o (f 0)
  value-at_none number f [] h = value-none o ring f
  value-at_none number f (z ∷ zs) h = absurd (omega arith)

  -- the line through the two values
  pub value-at_one : {E : Type 0} (number : E → ℕ) (f : ℕ → ℕ) (zs : List E) (z : E) → length zs ≡ 1 → z ≡ get_or zs 0 z →
      value o f (map number zs) ≡ plus o (f 0) (times o (minus o (f 1) (f 0)) (number z))
  unfolding bound
  value-at_one number f [] z size at = absurd (omega (arith, size))
  value-at_one number f (y ∷ []) z size at =
      value-bound o ring f (number y) []
      ∙ value-none o ring (bound o 1 (number y) f)
      ∙ element-plus o ring (f 0) (times o (minus o (f 1) (f 0)) (number y))
      ∙ ap (λ k. plus o (f 0) (times o (minus o (f 1) (f 0)) (number k))) (sym at)
  value-at_one number f (x ∷ (y ∷ ys)) z size at = absurd (omega (arith, size))

  pub value-at_more : {A E : Type 0} (na : A → ℕ) (ne : E → ℕ) (xs : List A) (zs : List E) (z : E) → 1 ≤ length zs → z ≡ get_or zs 0 z → length xs ≡ 2 ^ length zs →
      (low high : ℕ) →
      low ≡ value o (entries na (take (length xs / 2) xs)) (map ne (take (length zs - 1) (drop 1 zs))) →
      high ≡ value o (entries na (take (length xs - length xs / 2) (drop (length xs / 2) xs))) (map ne (take (length zs - 1) (drop 1 zs))) →
      plus o low (times o (minus o high low) (ne z)) ≡ value o (entries na xs) (map ne zs)
  value-at_more na ne xs [] z some at size low high low_is high_is = absurd (omega arith)
  value-at_more na ne xs (y ∷ ys) z some at size low high low_is high_is =
      let n = length xs in let half = n / 2 in
      let rest : take (suc (length ys) - 1) ys ≡ ys = take_all (suc (length ys) - 1) ys (omega arith) in
      let twice : n ≡ 2 ^ length ys * 2 = size ∙ pow-suc 2 (length ys) in
      let p : 2 ^ length (map ne ys) ≡ half = ap (λ k. 2 ^ k) (length-map ys ne) ∙ omega arith in
      let lower : low ≡ value o (entries na (take half xs)) (map ne ys) = low_is ∙ ap (λ l. value o (entries na (take half xs)) (map ne l)) rest in
      let upper : high ≡ value o (entries na (take (n - half) (drop half xs))) (map ne ys) = high_is ∙ ap (λ l. value o (entries na (take (n - half) (drop half xs))) (map ne l)) rest in
      ap (λ k. plus o low (times o (minus o high low) k)) (ap ne at)
      ∙ ap (λ k. plus o k (times o (minus o high k) (ne y))) lower
      ∙ ap (λ k. plus o (value o (entries na (take half xs)) (map ne ys)) (times o (minus o k (value o (entries na (take half xs)) (map ne ys))) (ne y))) upper
      ∙ sym (value-line o ring (entries na xs) (entries na (take half xs)) (entries na (take (n - half) (drop half xs))) (ne y) (map ne ys)
      (λ b h. entry-take na xs half b (omega arith))
      (λ b h. ap (λ l. entries na l b) (take_rest xs half) ∙ entry-drop na xs half b ∙ ap (λ k. entries na xs (k + b)) (sym p)))
