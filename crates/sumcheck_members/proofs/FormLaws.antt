-- What a form reads has what the form asks of it.
use Rattle.std.proofs.Common.{◌≡◌, ℕ, ◌<◌, ◌≤◌, List, [], ◌∷◌, length, Bool, true, false, Option, Some, None, Result, Ok, Err, refl, subst, ◌==◌, if◌then◌else◌}
use Rattle.std.specs.Prelude.{⊤, All, codes, is_some, nat_lt, nat_le, option_map}
use Rattle.std.specs.Option.{ok_or}
use Rattle.std.proofs.lemmas.Bool.{ltb-true, leb-true, eqb-true}
use Rattle.std.proofs.lemmas.List.Elements.{All-nil, All-cons}
use Rattle.std.proofs.lemmas.Option.{same_Some, none-some, cond_some, option_and_then_some}
use Rattle.serde_json.specs.Data.{Data}
use Rattle.serde_json.specs.Find.{get, as_array}
use Rattle.sc_forms.specs.Forms.{unsigned_form, below_form, at_most_form, list_of, all_of, list_form, list_of_length_form, literal_form, both_of, pair_form, member_form}
use Rattle.sumcheck_members.specs.Members.{Name, needed, unless_misfit}
use Rattle.sumcheck_members.specs.Elements.{with_member}
use Rattle.sumcheck_members.specs.Modes.{build_or_check_form, CheckFits}
use Rattle.sumcheck_members.specs.declared.mode.BuildOrCheck.{BuildOrCheck}
use Rattle.sumcheck_members.specs.declared.mode.BuildOrCheck.TheVariants.{Build, Check}

-- whatever is read has this
abbrev pub Gives : {A B : Type 0} → (A → Option B) → (B → Type 0) → Type 0
Gives {A} {B} form P = (d : A) (x : B) → form d ≡ Some x → P x

pub option_map_some : {A B Q : Type 0} (g : A → B) (o : Option A) (y : B) → option_map g o ≡ Some y → ((x : A) → o ≡ Some x → g x ≡ y → Q) → Q
option_map_some g None y is next = absurd (none-some y is)
option_map_some g (Some x) y is next = next x refl (same_Some _ _ is)

-- ---- numbers

pub below-gives : (bound : ℕ) → Gives (below_form bound) (λ n. n < bound)
below-gives bound d n is =
    option_and_then_some (λ m. if nat_lt m bound then Some m else None) (unsigned_form d) n is
    (λ m at some. let low = cond_some (nat_lt m bound) m n some in subst (λ k. k < bound) low.1 (ltb-true m bound low.0))

pub at_most-gives : (most : ℕ) → Gives (at_most_form most) (λ n. n ≤ most)
at_most-gives most d n is =
    option_and_then_some (λ m. if nat_le m most then Some m else None) (unsigned_form d) n is
    (λ m at some. let low = cond_some (nat_le m most) m n some in subst (λ k. k ≤ most) low.1 (leb-true m most low.0))

-- what goes on with a member of a job
needed-by : {B C Q : Type 0} (found : Option B) (m : Name) (rest : B → Result C Name) (y : C) →
    unless_misfit (ok_or found m) rest ≡ Ok y → ((x : B) → found ≡ Some x → rest x ≡ Ok y → Q) → Q
needed-by None m rest y is next = let clash : ⊥ = cc in absurd clash
needed-by (Some x) m rest y is next = next x refl is

-- ---- lists

module _ {B : Type 0} {P : B → Type 0} where
  all_of-gives : {A : Type 0} (form : A → Option B) → Gives form P → (xs : List A) (ys : List B) → all_of form xs ≡ Some ys → All P ys
  all_of-gives form gives [] ys is = subst (All P) (same_Some [] ys is) (All-nil P)
  all_of-gives form gives (x ∷ xs) ys is =
      option_and_then_some (λ y. option_map (λ l. y ∷ l) (all_of form xs)) (form x) ys is (λ y first some.
      option_map_some (λ l. y ∷ l) (all_of form xs) ys some (λ zs rest same.
      subst (All P) same (All-cons P y zs (gives x y first) (all_of-gives form gives xs zs rest))))

  pub list-gives : (form : Data → Option B) → Gives form P → Gives (list_form form) (All P)
  list-gives form gives d ys is =
      option_and_then_some (λ ds. all_of form (list_of ds)) (as_array d) ys is (λ ds at some. all_of-gives form gives (list_of ds) ys some)

  pub list_of_length-gives : (form : Data → Option B) → Gives form P → (count : ℕ) → Gives (list_of_length_form form count) (λ xs. All P xs × (length xs ≡ count))
  list_of_length-gives form gives count d ys is =
      option_and_then_some (λ xs. if length xs == count then Some xs else None) (list_form form d) ys is (λ xs at some.
      let whole = cond_some (length xs == count) xs ys some in
      subst (λ l. All P l × (length l ≡ count)) whole.1 (list-gives form gives d xs at, eqb-true (length xs) count whole.0))

  both_of-gives : {A : Type 0} (form : A → Option B) → Gives form P → (xs : List A) (pair : B × B) → both_of form xs ≡ Some pair → P pair.0 × P pair.1
  both_of-gives form gives [] pair is = absurd (none-some pair is)
  both_of-gives form gives (x ∷ []) pair is = absurd (none-some pair is)
  both_of-gives form gives (x ∷ y ∷ []) pair is =
      option_and_then_some (λ a. option_map (λ b. (a, b)) (form y)) (form x) pair is (λ a first some.
      option_map_some (λ b. (a, b)) (form y) pair some (λ b second same.
      subst (λ (p : B × B). P p.0 × P p.1) same (gives x a first, gives y b second)))
  both_of-gives form gives (x ∷ y ∷ z ∷ more) pair is = absurd (none-some pair is)

  pub pair-gives : (form : Data → Option B) → Gives form P → Gives (pair_form form) (λ pair. P pair.0 × P pair.1)
  pair-gives form gives d pair is =
      option_and_then_some (λ ds. both_of form (list_of ds)) (as_array d) pair is (λ ds at some. both_of-gives form gives (list_of ds) pair some)

  -- ---- members

  pub member-gives : (form : Data → Option B) → Gives form P → (name : List ℕ) → Gives (member_form form name) P
  member-gives form gives name d x is = option_and_then_some form (get name d) x is (λ e at some. gives e x some)

  -- what goes on with a member of an object
  pub with_member-gives : {C Q : Type 0} (d : Data) (name : List ℕ) (form : Data → Option B) (rest : B → Option C) (y : C) → Gives form P →
      with_member d name form rest ≡ Some y → ((x : B) → P x → rest x ≡ Some y → Q) → Q
  with_member-gives d name form rest y gives is next =
      option_and_then_some rest (member_form form name d) y is (λ x found some. next x (member-gives form gives name d x found) some)

  pub needed-gives : {C Q : Type 0} (form : Data → Option B) (m : Name) (d : Data) (rest : B → Result C Name) (y : C) → Gives form P →
      unless_misfit (needed form m d) rest ≡ Ok y → ((x : B) → P x → rest x ≡ Ok y → Q) → Q
  needed-gives form m d rest y gives is next =
      needed-by (member_form form m d) m rest y is (λ x found done. next x (member-gives form gives m d x found) done)

-- ---- builds and checks

module _ {Q : Type 0} {P : Q → Type 0} (form : Data → Option Q) (gives : Gives form P) where
  mode-by : (build : Bool) (proof : Option Q) (mode : BuildOrCheck Q) → ((p : Q) → proof ≡ Some p → P p) →
      (if build then Some Build else option_map (λ p. Check p) proof) ≡ Some mode → CheckFits P mode
  mode-by true proof mode fits is = subst (CheckFits P) (same_Some Build mode is) tt
  mode-by false proof mode fits is =
      option_map_some (λ p. Check p) proof mode is (λ p at same. subst (CheckFits P) same (fits p at))

  pub build_or_check-gives : Gives (build_or_check_form form) (CheckFits P)
  build_or_check-gives d mode is =
      mode-by (is_some (literal_form (codes "build") d)) (member_form form (codes "check") d) mode
      (member-gives form gives (codes "check") d) is

-- a form of which nothing is asked
pub any-gives : {A B : Type 0} (form : A → Option B) → Gives form (λ _. ⊤)
any-gives form d x is = tt

-- what a test lets through
pub tested_ok : {C : Type 0} (b : Bool) (r : Result C Name) (m : Name) (y : C) → (if b then r else Err m) ≡ Ok y → r ≡ Ok y
tested_ok true r m y is = is
tested_ok false r m y is = cc

-- what goes on where there was no misfit
pub unless_misfit-gives : {B C Q : Type 0} (r : Result B Name) (rest : B → Result C Name) (y : C) → unless_misfit r rest ≡ Ok y →
    ((x : B) → r ≡ Ok x → rest x ≡ Ok y → Q) → Q
unless_misfit-gives (Ok x) rest y is next = next x refl is
unless_misfit-gives (Err m) rest y is next = let clash : ⊥ = cc in absurd clash

pub ok-same : {C : Type 0} (x y : C) → ◌≡◌ {A = Result C Name} (Ok x) (Ok y) → x ≡ y
ok-same x y e = cc
