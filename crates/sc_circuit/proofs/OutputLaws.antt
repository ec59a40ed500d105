-- Outputs that are compared one after the other.
use Rattle.std.proofs.Common.{◌≡◌, ℕ, suc, ◌+◌, ◌≤◌, List, ◌∷◌, length, drop, if◌then◌else◌, Some, None, ◌∙◌, ap, arith, eq-eqb, ne_eqb}
use Rattle.std.proofs.Math.ListN.{drop_of_length-le}
use Rattle.sc_soundness.specs.Differences.{first_difference}

pub difference-next : (i x y : ℕ) (xs ys xs' ys' : List ℕ) → xs ≡ x ∷ xs' → ys ≡ y ∷ ys' → x ≡ y → first_difference i xs ys ≡ first_difference (i + 1) xs' ys'
unfolding first_difference
difference-next i x y xs ys xs' ys' xs_are ys_are same =
    let one : suc i ≡ i + 1 = omega arith in
    ap (λ l. first_difference i l ys) xs_are ∙ ap (first_difference i (x ∷ xs')) ys_are
    ∙ ap (λ b. if b then first_difference (suc i) xs' ys' else Some (record { place = i; claimed = x; actual = y })) (eq-eqb x y same)
    ∙ ap (λ n. first_difference n xs' ys') one

pub difference-here : (i x y : ℕ) (xs ys xs' ys' : List ℕ) → xs ≡ x ∷ xs' → ys ≡ y ∷ ys' → (x ≡ y → ⊥) →
    first_difference i xs ys ≡ Some (record { place = i; claimed = x; actual = y })
unfolding first_difference
difference-here i x y xs ys xs' ys' xs_are ys_are other =
    ap (λ l. first_difference i l ys) xs_are ∙ ap (first_difference i (x ∷ xs')) ys_are
    ∙ ap (λ b. if b then first_difference (suc i) xs' ys' else Some (record { place = i; claimed = x; actual = y })) (ne_eqb x y other)

pub difference-end : (i n : ℕ) (xs ys : List ℕ) → length xs ≤ n → first_difference i (drop n xs) (drop n ys) ≡ None
unfolding first_difference
difference-end i n xs ys past = ap (λ l. first_difference i l (drop n ys)) (drop_of_length-le xs past)
