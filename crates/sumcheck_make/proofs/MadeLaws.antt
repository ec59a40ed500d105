-- The values that a number begins, and sums of what rounds sent.
use Rattle.std.proofs.Common.{◌≡◌, ℕ, suc, ◌+◌, ◌<◌, List, [], ◌∷◌, ◌++◌, length, get_or, take, map, refl, sym, ap, ◌∙◌, arith}
use Rattle.std.proofs.lemmas.List.{map-append, take_more}
use Rattle.sc_definitions.specs.Ring.{Ops, IsRing, ◌+⟨◌⟩◌}
use Rattle.sc_definitions.proofs.RingLaws.{plus_comm, plus_assoc, plus-zero, element-small}
use Rattle.sumcheck_make.specs.Made.{value_at, values_behind, sum_of}

-- one value more
pub values-more : (number i count : ℕ) → values_behind number i (suc count) ≡ values_behind number i count ++ value_at number (i + count + 1) ∷ []
unfolding values_behind
values-more number i count = refl

pub values-none : (number i : ℕ) → values_behind number i 0 ≡ []
unfolding values_behind
values-none number i = refl

module _ (o : Ops) (ring : IsRing o) where
  -- the sum with one element more
  pub sum_of-more : (xs : List ℕ) (x : ℕ) → sum_of o (xs ++ x ∷ []) ≡ sum_of o xs +⟨ o ⟩ x
  unfolding sum_of
  sum_of-more [] x = plus_comm o ring x 0
  sum_of-more (y ∷ xs) x = ap (λ s. y +⟨ o ⟩ s) (sum_of-more xs x) ∙ sym (plus_assoc o ring y (sum_of o xs) x)

  -- the sum of two
  pub sum_of-two : (x y : ℕ) → y < o.size → sum_of o (x ∷ y ∷ []) ≡ x +⟨ o ⟩ y
  unfolding sum_of
  sum_of-two x y low = ap (λ s. x +⟨ o ⟩ s) (plus-zero o ring y ∙ element-small o ring y low)

-- one value more was taken
pub taken_more : {X : Type 0} (of : X → ℕ) (number i k : ℕ) (xs new : List X) (x : X) {last : ℕ} → map of xs ≡ values_behind number i k → new ≡ xs ++ x ∷ [] →
    of x ≡ last → last ≡ value_at number (suc (i + k)) → (map of new ≡ values_behind number i (k + 1)) × (last ≡ value_at number (i + (k + 1)))
taken_more of number i k xs new x before more is next =
    let at : suc (i + k) ≡ i + (k + 1) = omega arith in
    let here : suc (i + k) ≡ i + k + 1 = omega arith in
    let one : suc k ≡ k + 1 = omega arith in (
      ap (map of) more ∙ map-append of xs (x ∷ []) ∙ ap (λ t. t ++ of x ∷ []) before
          ∙ ap (λ v. values_behind number i k ++ v ∷ []) (is ∙ next ∙ ap (value_at number) here)
          ∙ sym (values-more number i k) ∙ ap (values_behind number i) one,
      next ∙ ap (value_at number) at,
    )

-- the values of one message more
pub sent_more : (o : Ops) → IsRing o → {X : Type 0} (sent : X → List ℕ) (xs : List X) (k : ℕ) (x : X) (a b sum new both : ℕ) → k < length xs → x ≡ get_or xs k x →
    sent x ≡ a ∷ b ∷ [] → b < o.size → both ≡ a +⟨ o ⟩ b → new ≡ sum +⟨ o ⟩ both → sum ≡ sum_of o (map (sum_of o) (map sent (take k xs))) →
    new ≡ sum_of o (map (sum_of o) (map sent (take (k + 1) xs)))
sent_more o ring sent xs k x a b sum new both low is are fits two more before =
    let here : both ≡ sum_of o (sent x) = two ∙ sym (sum_of-two o ring a b fits) ∙ ap (sum_of o) (sym are) in
    let images = map (sum_of o) (map sent (take k xs)) in
    let all : map (sum_of o) (map sent (take (k + 1) xs)) ≡ images ++ sum_of o (sent x) ∷ [] =
    ap (λ t. map (sum_of o) (map sent t)) (take_more xs k x low ∙ ap (λ y. take k xs ++ y ∷ []) (sym is))
    ∙ ap (map (sum_of o)) (map-append sent (take k xs) (x ∷ []))
    ∙ map-append (sum_of o) (map sent (take k xs)) (sent x ∷ []) in
    more ∙ ap (λ s. s +⟨ o ⟩ both) before ∙ ap (λ t. sum_of o images +⟨ o ⟩ t) here ∙ sym (sum_of-more o ring images (sum_of o (sent x))) ∙ ap (sum_of o) (sym all)

pub value_at-first : (number : ℕ) → value_at number 0 ≡ number
unfolding value_at
value_at-first number = refl
