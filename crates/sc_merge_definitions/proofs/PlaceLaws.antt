-- Two lists that are gone through side by side: where they differ first, and the one less the other.
use Rattle.std.proofs.Common.{◌≡◌, ℕ, suc, ◌+◌, ◌<◌, ◌≤◌, List, [], ◌∷◌, ◌++◌, length, map, get_or, drop, if◌then◌else◌, Option, Some, None, ap, sym, ◌∙◌, arith, append_assoc, eq-eqb, ne_eqb}
use Rattle.std.proofs.lemmas.List.{map-append, append-nil, length-map}
use Rattle.sc_definitions.specs.Ring.{Ops, minus}
use Rattle.sc_definitions.specs.Polynomials.{poly_minus}
use Rattle.sc_definitions.proofs.FindLaws.{drop-next, drop-none}
use Rattle.sc_soundness.specs.Differences.{Difference, first_difference}

module _ {X : Type 0} (number : X → ℕ) (i : ℕ) (xs ys : List X) where
  -- ---- at a place of both

  module _ {x y : X} (in_xs : i < length xs) (in_ys : i < length ys) (x_is : x ≡ get_or xs i x) (y_is : y ≡ get_or ys i y) where
    -- they go on with what stands there
    pub both-next : {R : Type 0} (f : List ℕ → List ℕ → R) →
        f (drop i (map number xs)) (drop i (map number ys)) ≡ f (number x ∷ drop (i + 1) (map number xs)) (number y ∷ drop (i + 1) (map number ys))
    both-next f = (λ j. f (drop-next number xs i x in_xs x_is j) (drop-next number ys i y in_ys y_is j))

    -- it is the same
    pub first-next : {a b : ℕ} → a ≡ number x → b ≡ number y → a ≡ b →
        first_difference i (drop i (map number xs)) (drop i (map number ys)) ≡ first_difference (i + 1) (drop (i + 1) (map number xs)) (drop (i + 1) (map number ys))
    unfolding first_difference
    first-next a_is b_is same =
        let rest : ℕ → Option Difference = λ k. first_difference k (drop (i + 1) (map number xs)) (drop (i + 1) (map number ys)) in
        let up : suc i ≡ i + 1 = omega arith in
        both-next (first_difference i)
        ∙ ap (λ t. if t then rest (suc i) else Some (record { place = i; claimed = number x; actual = number y })) (eq-eqb _ _ (sym a_is ∙ same ∙ b_is)) ∙ ap rest up

    -- it is not
    pub first-here : {a b : ℕ} → a ≡ number x → b ≡ number y → (a ≡ b → ⊥) →
        first_difference i (drop i (map number xs)) (drop i (map number ys)) ≡ Some (record { place = i; claimed = a; actual = b })
    unfolding first_difference
    first-here a_is b_is other =
        both-next (first_difference i)
        ∙ ap (λ t. if t then first_difference (suc i) (drop (i + 1) (map number xs)) (drop (i + 1) (map number ys)) else Some (record { place = i; claimed = number x; actual = number y }))
        (ne_eqb _ _ (λ e. other (a_is ∙ e ∙ sym b_is)))
        ∙ (λ j. Some (record { place = i; claimed = sym a_is j; actual = sym b_is j }))

    -- what the one has more there
    pub minus-next : {Y : Type 0} (o : Ops) (of : Y → ℕ) (done : List Y) {d : Y} {new : List Y} {all : List ℕ} → new ≡ done ++ d ∷ [] → of d ≡ minus o (number x) (number y) →
        map of done ++ poly_minus o (drop i (map number xs)) (drop i (map number ys)) ≡ all →
        map of new ++ poly_minus o (drop (i + 1) (map number xs)) (drop (i + 1) (map number ys)) ≡ all
    unfolding poly_minus
    minus-next o of done {d = d} more is so_far =
        let rest = poly_minus o (drop (i + 1) (map number xs)) (drop (i + 1) (map number ys)) in
        ap (λ l. map of l ++ rest) more ∙ ap (λ l. l ++ rest) (map-append of done (d ∷ [])) ∙ append_assoc (map of done) (of d ∷ []) rest
        ∙ ap (λ v. map of done ++ (v ∷ rest)) is ∙ ap (λ l. map of done ++ l) (sym (both-next (poly_minus o))) ∙ so_far

  -- ---- past the first one

  module _ (past : length xs ≤ i) where
    none_left : drop i (map number xs) ≡ []
    none_left = drop-none (map number xs) i (omega (arith, length-map xs number, past))

    pub first-end : first_difference i (drop i (map number xs)) (drop i (map number ys)) ≡ None
    unfolding first_difference
    first-end = ap (λ l. first_difference i l (drop i (map number ys))) none_left

    pub minus-end : (o : Ops) (done : List ℕ) {all : List ℕ} → done ++ poly_minus o (drop i (map number xs)) (drop i (map number ys)) ≡ all → done ≡ all
    unfolding poly_minus
    minus-end o done is = sym (ap (λ l. done ++ poly_minus o l (drop i (map number ys))) none_left ∙ append-nil done) ∙ is
