-- A ring map between fields keeps elements apart, and lists.
use Rattle.std.proofs.Common.{◌≡◌, ◌≢◌, ℕ, zero, suc, ◌<◌, List, [], ◌∷◌, All, length, map, if◌then◌else◌, Some, None, sym, ◌∙◌, ap, refl, arith, ⊎_elim, eq-eqb, ne_eqb}
use Rattle.std.proofs.lemmas.Bool.{cases_eq}
use Rattle.sc_definitions.specs.Ring.{Ops, IsField, IsRingMap, element, times, opposite, minus}
use Rattle.sc_definitions.specs.Tables.{rows_of}
use Rattle.sc_definitions.specs.Polynomials.{poly_minus, AllZero}
use Rattle.sc_definitions.proofs.RingLaws.{element-small, element-plus, plus_below, times_comm, times-zero}
use Rattle.sc_definitions.proofs.RootLaws.{same-from_minus, inverse_of}
use Rattle.sc_definitions.proofs.Maps.{map-minus}
use Rattle.sc_soundness.specs.Differences.{Difference, first_difference}
use Rattle.sc_soundness.proofs.CourseLaws.{minus-same}

-- ---- differences

pub difference-none : (i : ℕ) (xs : List ℕ) → first_difference i xs xs ≡ None
unfolding first_difference
difference-none i [] = refl
difference-none i (x ∷ xs) =
    ap (λ b. if b then first_difference (suc i) xs xs else Some (record { place = i; claimed = x; actual = x })) (eq-eqb x x refl) ∙ difference-none (suc i) xs

pub same-lists : (i : ℕ) (xs ys : List ℕ) → length xs ≡ length ys → first_difference i xs ys ≡ None → xs ≡ ys
unfolding first_difference
same-lists i [] [] long none = refl
same-lists i [] (y ∷ ys) long none = absurd (omega (arith, long))
same-lists i (x ∷ xs) [] long none = absurd (omega (arith, long))
same-lists i (x ∷ xs) (y ∷ ys) long none =
    let here : Difference = record { place = i; claimed = x; actual = y } in
    let rest = first_difference (suc i) xs ys in
    ⊎_elim
    (λ same.
    let later : rest ≡ None = sym (ap (λ b. if b then rest else Some here) (eq-eqb _ _ same)) ∙ none in
    ap (λ v. v ∷ xs) same ∙ ap (λ l. y ∷ l) (same-lists (suc i) xs ys (omega (arith, long)) later))
    (λ other. let bad : Some here ≡ None = sym (ap (λ b. if b then rest else Some here) (ne_eqb _ _ other)) ∙ none in cc)
    (cases_eq x y)

-- ---- images

module _ (a b : Ops) (fa : IsField a) (fb : IsField b) (h : ℕ → ℕ) (m : IsRingMap a b h) where
  nonzero-image : (d : ℕ) → d < a.size → element a d ≢ 0 → h d ≢ 0
  nonzero-image d low some zero_image =
      let inv = inverse_of a fa d some in
      let y = inv.0 in
      let one : h (times a d y) ≡ 1 = ap h inv.2 ∙ m.one_kept in
      let none : h (times a d y) ≡ 0 =
      m.times_kept d y low inv.1 ∙ ap (λ v. times b v (h y)) zero_image ∙ times_comm b fb.ring 0 (h y) ∙ times-zero b fb.ring (h y) in
      let bad : 1 ≡ 0 = sym one ∙ none in
      absurd (omega (arith, bad))

  pub apart : (x y : ℕ) → x < a.size → y < a.size → h x ≡ h y → x ≡ y
  apart x y lx ly same =
      let d = minus a x y in
      let d_low : d < a.size = plus_below a fa.ring x (opposite a y) in
      let whole : element a d ≡ d = element-plus a fa.ring x (opposite a y) in
      let image_none : h d ≡ 0 = map-minus a b fa.ring fb.ring h m x y lx ly ∙ minus-same b fb.ring (h x) (h y) same in
      ⊎_elim
      (λ none. sym (element-small a fa.ring x lx) ∙ same-from_minus a fa.ring x y (sym whole ∙ none) ∙ element-small a fa.ring y ly)
      (λ some. absurd (nonzero-image d d_low some image_none))
      (cases_eq (element a d) 0)

  -- lists whose images exceed each other nowhere are the same
  pub images-apart : (xs ys : List ℕ) → length xs ≡ length ys → All (λ x. x < a.size) xs → All (λ y. y < a.size) ys →
      AllZero b (poly_minus b (map h xs) (map h ys)) → xs ≡ ys
  unfolding poly_minus
  images-apart [] [] long lx ly zeros = refl
  images-apart [] (y ∷ ys) long lx ly zeros = absurd (omega (arith, long))
  images-apart (x ∷ xs) [] long lx ly zeros = absurd (omega (arith, long))
  images-apart (x ∷ xs) (y ∷ ys) long lx ly zeros =
      let px : x < a.size = lx 0 0 (omega arith) in
      let py : y < a.size = ly 0 0 (omega arith) in
      let none : minus b (h x) (h y) ≡ 0 = sym (element-plus b fb.ring (h x) (opposite b (h y))) ∙ zeros.0 in
      let images : h x ≡ h y =
      sym (element-small b fb.ring (h x) (m.below x px)) ∙ same-from_minus b fb.ring (h x) (h y) none ∙ element-small b fb.ring (h y) (m.below y py) in
      ap (λ v. v ∷ xs) (apart x y px py images)
      ∙ ap (λ l. y ∷ l) (images-apart xs ys (omega (arith, long)) (λ k d low. lx (suc k) d (omega (arith, low))) (λ k d low. ly (suc k) d (omega (arith, low))) zeros.1)

-- ---- rows

pub rows-below : (n : ℕ) → 0 < n → (xs : List ℕ) → All (λ x. x < n) xs → (b : ℕ) → rows_of xs b < n
unfolding rows_of
rows-below n some [] low b = some
rows-below n some (x ∷ xs) low zero = low 0 0 (omega arith)
rows-below n some (x ∷ xs) low (suc b) = rows-below n some xs (λ k d less. low (suc k) d (omega (arith, less))) b

pub rows-image : (h : ℕ → ℕ) → h 0 ≡ 0 → (xs : List ℕ) (b : ℕ) → rows_of (map h xs) b ≡ h (rows_of xs b)
unfolding rows_of
rows-image h none [] b = sym none
rows-image h none (x ∷ xs) zero = refl
rows-image h none (x ∷ xs) (suc b) = rows-image h none xs b
