-- The three sums of the successor's value, one coordinate after the other, the first one first.
use Rattle.std.proofs.Common.{◌≡◌, ℕ, suc, ◌<◌, List, [], ◌∷◌, length, map, sym, ◌∙◌, ap, refl, arith, ◌⊎◌, ⊎_elim}
use Rattle.sc_definitions.specs.Ring.{Ops, IsRing, element, plus, times, minus}
use Rattle.sc_definitions.specs.Statements.{next_carry, next_done, next_omega}
use Rattle.sc_definitions.proofs.RingLaws.{element-small, element-times, times_comm, times-one}
use Rattle.sc_definitions.proofs.Sums.{element-sum}
use Rattle.sc_definitions.proofs.SuccessorLaws.{next-none, next_carry-more, next_done-more, next_omega-more}
use Rattle.sc_definitions.proofs.Identity.{atom, nought, unit, ◌⊕◌, ◌⊗◌, ◌⊖◌, Agree, identity}

-- With what the coordinates before the rest make, the sums of the rest make those of all.
pub record IsPassed (o : Ops) (all_z all_x zs xs : List ℕ) (equal carry done last : ℕ) : Type 0 where
  pub size : length zs ≡ length xs
  pub carries : times o carry (next_carry o zs xs) ≡ next_carry o all_z all_x
  pub is_done : plus o (times o equal (next_done o zs xs)) (times o done (next_carry o zs xs)) ≡ next_done o all_z all_x
  pub lasts : times o last (next_omega o zs xs) ≡ next_omega o all_z all_x

module _ (o : Ops) (ring : IsRing o) where
  element-carry : (zs xs : List ℕ) → element o (next_carry o zs xs) ≡ next_carry o zs xs
  unfolding next_carry
  element-carry zs xs = element-times o ring _ _

  element-omega : (zs xs : List ℕ) → element o (next_omega o zs xs) ≡ next_omega o zs xs
  unfolding next_omega
  element-omega zs xs = element-times o ring _ _

  element-done : (zs xs : List ℕ) → element o (next_done o zs xs) ≡ next_done o zs xs
  unfolding next_done
  element-done zs xs = element-sum o ring _ _

  once : (x : ℕ) → element o x ≡ x → times o 1 x ≡ x
  once x whole = times_comm o ring 1 x ∙ times-one o ring x ∙ whole

  -- no coordinate is passed
  pub passed-none : (zs xs : List ℕ) (equal carry done last : ℕ) → length zs ≡ length xs → equal ≡ 1 → carry ≡ 1 → done ≡ 0 → last ≡ 1 → IsPassed o zs xs zs xs equal carry done last
  unfolding Agree
  passed-none zs xs equal carry done last size equal_is carry_is done_is last_is = record {
    size = size;
    carries = ap (λ k. times o k (next_carry o zs xs)) carry_is ∙ once (next_carry o zs xs) (element-carry zs xs);
    is_done = ap (λ k. plus o (times o k (next_done o zs xs)) (times o done (next_carry o zs xs))) equal_is
        ∙ ap (λ k. plus o (times o 1 (next_done o zs xs)) (times o k (next_carry o zs xs))) done_is
        ∙ identity o ring (next_done o zs xs ∷ next_carry o zs xs ∷ []) (unit ⊗ atom 0 ⊕ nought ⊗ atom 1) (unit ⊗ atom 0) tt tt refl
        ∙ once (next_done o zs xs) (element-done zs xs);
    lasts = ap (λ k. times o k (next_omega o zs xs)) last_is ∙ once (next_omega o zs xs) (element-omega zs xs);
  }

  -- one coordinate more is passed
  pub passed-more : (all_z all_x zs xs : List ℕ) (z x : ℕ) {equal carry done last : ℕ} {equal' carry' done' last' : ℕ} → IsPassed o all_z all_x (z ∷ zs) (x ∷ xs) equal carry done last →
      equal' ≡ times o equal (plus o (times o z x) (times o (minus o 1 z) (minus o 1 x))) → carry' ≡ times o carry (times o z (minus o 1 x)) →
      done' ≡ plus o (times o done (times o z (minus o 1 x))) (times o equal (times o (minus o 1 z) x)) → last' ≡ times o last (times o z x) →
      IsPassed o all_z all_x zs xs equal' carry' done' last'
  unfolding Agree
  passed-more all_z all_x zs xs z x {equal} {carry} {done} {last} {done'} so_far equal_is carry_is done_is last_is =
      let size : length zs ≡ length xs = omega (arith, so_far.size) in
      let C = next_carry o zs xs in let D = next_done o zs xs in let W = next_omega o zs xs in
      let Z = atom 0 in let X = atom 1 in let E = atom 2 in let F = atom 3 in let G = atom 4 in let H = atom 5 in
      record {
        size = size;
        carries = ap (λ k. times o k C) carry_is
            ∙ identity o ring (z ∷ x ∷ carry ∷ C ∷ []) ((E ⊗ (Z ⊗ (unit ⊖ X))) ⊗ F) (E ⊗ ((Z ⊗ (unit ⊖ X)) ⊗ F)) tt tt refl
            ∙ ap (times o carry) (sym (next_carry-more o ring z x zs xs size)) ∙ so_far.carries;
        is_done = ap (λ k. plus o (times o k D) (times o done' C)) equal_is
            ∙ ap (λ k. plus o (times o (times o equal (plus o (times o z x) (times o (minus o 1 z) (minus o 1 x)))) D) (times o k C)) done_is
            ∙ identity o ring (z ∷ x ∷ equal ∷ done ∷ D ∷ C ∷ [])
            ((E ⊗ (Z ⊗ X ⊕ (unit ⊖ Z) ⊗ (unit ⊖ X))) ⊗ G ⊕ (F ⊗ (Z ⊗ (unit ⊖ X)) ⊕ E ⊗ ((unit ⊖ Z) ⊗ X)) ⊗ H)
            (E ⊗ ((Z ⊗ X ⊕ (unit ⊖ Z) ⊗ (unit ⊖ X)) ⊗ G ⊕ ((unit ⊖ Z) ⊗ X) ⊗ H) ⊕ F ⊗ ((Z ⊗ (unit ⊖ X)) ⊗ H)) tt tt refl
            ∙ ap (λ k. plus o (times o equal k) (times o done (times o (times o z (minus o 1 x)) C))) (sym (next_done-more o ring z x zs xs size))
            ∙ ap (λ k. plus o (times o equal (next_done o (z ∷ zs) (x ∷ xs))) (times o done k)) (sym (next_carry-more o ring z x zs xs size))
            ∙ so_far.is_done;
        lasts = ap (λ k. times o k W) last_is
            ∙ identity o ring (z ∷ x ∷ last ∷ W ∷ []) ((E ⊗ (Z ⊗ X)) ⊗ F) (E ⊗ ((Z ⊗ X) ⊗ F)) tt tt refl
            ∙ ap (times o last) (sym (next_omega-more o ring z x zs xs size)) ∙ so_far.lasts;
      }

  -- what each factor of a coordinate is
  pub factors : (z x both falls rises neither one : ℕ) → both ≡ times o z x → falls ≡ minus o z both → rises ≡ minus o x both → one ≡ 1 → neither ≡ minus o (minus o one z) rises →
      (falls ≡ times o z (minus o 1 x)) × ((rises ≡ times o (minus o 1 z) x) × (plus o both neither ≡ plus o (times o z x) (times o (minus o 1 z) (minus o 1 x))))
  unfolding Agree
  factors z x both falls rises neither one both_is falls_is rises_is one_is neither_is =
      let Z = atom 0 in let X = atom 1 in (
        falls_is ∙ ap (minus o z) both_is ∙ identity o ring (z ∷ x ∷ []) (Z ⊖ Z ⊗ X) (Z ⊗ (unit ⊖ X)) tt tt refl,
        (
          rises_is ∙ ap (minus o x) both_is ∙ identity o ring (z ∷ x ∷ []) (X ⊖ Z ⊗ X) ((unit ⊖ Z) ⊗ X) tt tt refl,
          ap (λ k. plus o k neither) both_is
              ∙ ap (plus o (times o z x)) (neither_is ∙ ap (λ k. minus o (minus o k z) rises) one_is ∙ ap (minus o (minus o 1 z)) (rises_is ∙ ap (minus o x) both_is))
              ∙ identity o ring (z ∷ x ∷ []) (Z ⊗ X ⊕ ((unit ⊖ Z) ⊖ (X ⊖ Z ⊗ X))) (Z ⊗ X ⊕ (unit ⊖ Z) ⊗ (unit ⊖ X)) tt tt refl,
        ),
      )

  -- all coordinates are passed
  ended : (all_z all_x zs xs : List ℕ) (equal carry done last : ℕ) → equal < o.size → carry < o.size → done < o.size → last < o.size → zs ≡ [] → xs ≡ [] →
      IsPassed o all_z all_x zs xs equal carry done last → (carry ≡ next_carry o all_z all_x) × ((done ≡ next_done o all_z all_x) × (last ≡ next_omega o all_z all_x))
  unfolding Agree
  ended all_z all_x zs xs equal carry done last equal_low carry_low done_low last_low none none' passed =
      let small : (x : ℕ) → x < o.size → times o x 1 ≡ x = λ x low. times-one o ring x ∙ element-small o ring x low in
      let C : next_carry o zs xs ≡ 1 = ap (λ l. next_carry o l xs) none ∙ ap (next_carry o []) none' ∙ (next-none o ring).0 in
      let D : next_done o zs xs ≡ 0 = ap (λ l. next_done o l xs) none ∙ ap (next_done o []) none' ∙ (next-none o ring).1.0 in
      let W : next_omega o zs xs ≡ 1 = ap (λ l. next_omega o l xs) none ∙ ap (next_omega o []) none' ∙ (next-none o ring).1.1 in (
        sym (small carry carry_low) ∙ ap (times o carry) (sym C) ∙ passed.carries,
        (
          sym (identity o ring (equal ∷ done ∷ []) (atom 0 ⊗ nought ⊕ atom 1 ⊗ unit) (atom 1 ⊗ unit) tt tt refl ∙ small done done_low)
              ∙ ap (λ k. plus o (times o equal k) (times o done 1)) (sym D) ∙ ap (λ k. plus o (times o equal (next_done o zs xs)) (times o done k)) (sym C) ∙ passed.is_done,
          sym (small last last_low) ∙ ap (times o last) (sym W) ∙ passed.lasts,
        ),
      )

  pub passed-all : {X : Type 0} (number : X → ℕ) (all_z all_x : List ℕ) (zs xs : List X) (equal carry done last : ℕ) → equal < o.size → carry < o.size → done < o.size → last < o.size → (zs ≡ []) ⊎ (xs ≡ []) →
      IsPassed o all_z all_x (map number zs) (map number xs) equal carry done last → (carry ≡ next_carry o all_z all_x) × ((done ≡ next_done o all_z all_x) × (last ≡ next_omega o all_z all_x))
  passed-all number all_z all_x [] [] equal carry done last e c d w none passed = ended all_z all_x [] [] equal carry done last e c d w refl refl passed
  passed-all number all_z all_x [] (x ∷ xs) equal carry done last e c d w none passed = let size : 0 ≡ suc (length (map number xs)) = passed.size in absurd (omega (arith, size))
  passed-all number all_z all_x (z ∷ zs) [] equal carry done last e c d w none passed = let size : suc (length (map number zs)) ≡ 0 = passed.size in absurd (omega (arith, size))
  passed-all number all_z all_x (z ∷ zs) (x ∷ xs) equal carry done last e c d w none passed = absurd (⊎_elim
      (λ e. let size : length (z ∷ zs) ≡ 0 = ap length e in omega (arith, size))
      (λ e. let size : length (x ∷ xs) ≡ 0 = ap length e in omega (arith, size)) none)
