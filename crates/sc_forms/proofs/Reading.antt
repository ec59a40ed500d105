-- Lists of values that are read one by one.
use Rattle.std.proofs.Common.{◌≡◌, ℕ, zero, suc, ◌+◌, ◌<◌, List, [], ◌∷◌, ◌++◌, length, get_or, take, map, Option, Some, None, option_map, option_and_then, refl, sym, ap, ◌∙◌, arith, add-one, inl, inr, ◌==◌, if◌then◌else◌}
use Rattle.std.proofs.lemmas.Option.{same_Some}
use Rattle.std.proofs.lemmas.Bool.{eq-eqb}
use Rattle.std.proofs.lemmas.Bool.Decides.{eqb_tells}
use Rattle.serde_json.specs.Data.{Data}
use Rattle.serde_json.specs.View.{view, items_view}
use Rattle.serde_json.specs.declared.value.Value.{Value}
use Rattle.serde_json.specs.declared.value.Value.TheVariants.{Array}
use Rattle.serde_json.specs.Find.{as_array}
use Rattle.serde_json.proofs.Views.{view-Array}
use Rattle.sc_forms.specs.Forms.{all_of, both_of, list_of, list_form, list_of_length_form, pair_form}

-- one of them is not of the form
pub all_of_none : {A B : Type 0} (f : A → Option B) (xs : List A) (i : ℕ) (d : A) → i < length xs → f (get_or xs i d) ≡ None → all_of f xs ≡ None
all_of_none f [] i d h e = absurd (omega arith)
all_of_none f (x ∷ xs) zero d h e = rw e refl
all_of_none f (x ∷ xs) (suc i) d h e =
    let later = all_of_none f xs i d (omega arith) e in
    elim (f x) as (λ o. option_and_then (λ y. option_map (λ ys. y ∷ ys) (all_of f xs)) o ≡ None) [ None ↦ refl | Some y ↦ rw later refl ]

more_at : {B : Type 0} (first : Option B) (rest longer : Option (List B)) (ys : List B) (y : B) → ((zs : List B) → rest ≡ Some zs → longer ≡ Some (zs ++ y ∷ []))
    → option_and_then (λ x. option_map (λ zs. x ∷ zs) rest) first ≡ Some ys → option_and_then (λ x. option_map (λ zs. x ∷ zs) longer) first ≡ Some (ys ++ y ∷ [])
more_at None rest longer ys y step before = cc
more_at (Some x) None longer ys y step before = cc
more_at (Some x) (Some zs) longer ys y step before = rw (step zs refl) (ap (λ l. Some (l ++ y ∷ [])) (same_Some _ _ before))

-- one more is of the form
pub all_of_more : {A B : Type 0} (f : A → Option B) (xs : List A) (ys : List B) (y : B) (i : ℕ) (d : A) → i < length xs → all_of f (take i xs) ≡ Some ys → f (get_or xs i d) ≡ Some y → all_of f (take (suc i) xs) ≡ Some (ys ++ y ∷ [])
all_of_more f [] ys y i d h before e = absurd (omega arith)
all_of_more f (x ∷ xs) ys y zero d h before e = rw e (ap (λ l. Some (l ++ y ∷ [])) (same_Some _ _ before))
all_of_more f (x ∷ xs) ys y (suc i) d h before e = more_at (f x) _ _ ys y (λ zs was. all_of_more f xs zs y i d (omega arith) was e) before

pub all_of-map : {A B C : Type 0} (f : B → Option C) (g : A → B) (xs : List A) → all_of f (map g xs) ≡ all_of (λ x. f (g x)) xs
all_of-map f g [] = refl
all_of-map f g (x ∷ xs) = rw (all_of-map f g xs) refl

pub list_of-items_view : (vs : List Value) → list_of (items_view vs) ≡ map view vs
list_of-items_view [] = refl
list_of-items_view (v ∷ vs) = rw (list_of-items_view vs) refl

-- the same, for an item that was read at an index
pub all_of_none_read : {A B : Type 0} (f : A → Option B) (xs : List A) (i : ℕ) (x : A) → i < length xs → x ≡ get_or xs i x → f x ≡ None → all_of f xs ≡ None
all_of_none_read f xs i x h is e = all_of_none f xs i x h (ap f (sym is) ∙ e)

pub all_of_more_read : {A B : Type 0} (f : A → Option B) (xs : List A) (ys : List B) (y : B) (i : ℕ) (x : A) → i < length xs → x ≡ get_or xs i x → all_of f (take i xs) ≡ Some ys → f x ≡ Some y → all_of f (take (i + 1) xs) ≡ Some (ys ++ y ∷ [])
all_of_more_read f xs ys y i x h is before e = rw add-one (all_of_more f xs ys y i x h before (ap f (sym is) ∙ e))

-- ---- lists

-- a value that is a list, at its items
pub list_form_of : {B : Type 0} (f : Data → Option B) (d : Data) (vs : List Value) (r : Option (List B)) → as_array d ≡ Some (items_view vs) → all_of (λ x. f (view x)) vs ≡ r → list_form f d ≡ r
list_form_of f d vs r is e = rw (is, list_of-items_view vs, all_of-map f view vs) e

both_of_none : {A B : Type 0} (f : A → Option B) (xs : List A) → (length xs ≡ 2 → ⊥) → both_of f xs ≡ None
both_of_none f [] other = refl
both_of_none f (x ∷ []) other = refl
both_of_none f (x ∷ y ∷ []) other = absurd (other refl)
both_of_none f (x ∷ y ∷ z ∷ more) other = refl

length-map : {A B : Type 0} (f : A → B) (xs : List A) → length (map f xs) ≡ length xs
length-map f [] = refl
length-map f (x ∷ xs) = ap suc (length-map f xs)

-- a list that has not two items is no pair
pub pair_form_none : {B : Type 0} (f : Data → Option B) (d : Data) (vs : List Value) → as_array d ≡ Some (items_view vs) → (length vs ≡ 2 → ⊥) → pair_form f d ≡ None
pair_form_none f d vs is other = rw (is, list_of-items_view vs) (both_of_none f (map view vs) (λ two. other (sym (length-map view vs) ∙ two)))

-- ---- lists of a given length

length_more : {B : Type 0} (first : Option B) (rest : Option (List B)) (ys : List B) (n : ℕ) → ((zs : List B) → rest ≡ Some zs → length zs ≡ n)
    → option_and_then (λ y. option_map (λ zs. y ∷ zs) rest) first ≡ Some ys → length ys ≡ suc n
length_more None rest ys n step e = cc
length_more (Some y) None ys n step e = cc
length_more (Some y) (Some zs) ys n step e = ap length (sym (same_Some _ _ e)) ∙ ap suc (step zs refl)

-- each of them is read as one
length-all_of : {A B : Type 0} (f : A → Option B) (xs : List A) (ys : List B) → all_of f xs ≡ Some ys → length ys ≡ length xs
length-all_of f [] ys e = ap length (sym (same_Some _ _ e))
length-all_of f (x ∷ xs) ys e = length_more (f x) (all_of f xs) ys (length xs) (λ zs was. length-all_of f xs zs was) e

if_other_length : {B : Type 0} (xs : List B) (n : ℕ) → (length xs ≡ n → ⊥) → (if length xs == n then Some xs else None) ≡ None
if_other_length xs n other = elim (eqb_tells (length xs) n) [ inl t ↦ absurd (other t.1) | inr t ↦ rw t.0 refl ]

of_other_length : {B : Type 0} (r : Option (List B)) (n m : ℕ) → ((xs : List B) → r ≡ Some xs → length xs ≡ m) → (m ≡ n → ⊥)
    → option_and_then (λ xs. if length xs == n then Some xs else None) r ≡ None
of_other_length None n m is other = refl
of_other_length (Some xs) n m is other = if_other_length xs n (λ e. other (sym (is xs refl) ∙ e))

of_this_length : {B : Type 0} (s r : Option (List B)) (n : ℕ) → s ≡ r → ((xs : List B) → r ≡ Some xs → length xs ≡ n)
    → option_and_then (λ xs. if length xs == n then Some xs else None) s ≡ r
of_this_length s None n same is = rw same refl
of_this_length s (Some xs) n same is = let count = eq-eqb (length xs) n (is xs refl) in rw (same, count) refl

-- a list that has another number of items
pub list_of_length_form_none : {B : Type 0} (f : Data → Option B) (d : Data) (vs : List Value) (n : ℕ) → as_array d ≡ Some (items_view vs) → (length vs ≡ n → ⊥) → list_of_length_form f n d ≡ None
list_of_length_form_none f d vs n is other = of_other_length (list_form f d) n (length vs) (λ xs e. length-all_of (λ x. f (view x)) vs xs (sym (list_form_of f d vs _ is refl) ∙ e)) other

-- a list that has this number of items
pub list_of_length_form_of : {B : Type 0} (f : Data → Option B) (d : Data) (vs : List Value) (n : ℕ) (r : Option (List B)) → as_array d ≡ Some (items_view vs) → length vs ≡ n → all_of (λ x. f (view x)) vs ≡ r → list_of_length_form f n d ≡ r
list_of_length_form_of f d vs n r is count e = of_this_length (list_form f d) r n (list_form_of f d vs r is e) (λ xs was. length-all_of (λ x. f (view x)) vs xs (e ∙ was) ∙ count)

-- one more item that is of the form
pub all_of_push : {A B : Type 0} (f : A → Option B) (xs : List A) (ys : List B) (x : A) (y : B) → all_of f xs ≡ Some ys → f x ≡ Some y → all_of f (xs ++ x ∷ []) ≡ Some (ys ++ y ∷ [])
all_of_push f [] ys x y before e = rw e (ap (λ l. Some (l ++ y ∷ [])) (same_Some _ _ before))
all_of_push f (z ∷ xs) ys x y before e = more_at (f z) _ _ ys y (λ zs was. all_of_push f xs zs x y was e) before

-- the items of a list that was moved out of a value
pub items-of_array : (v : Value) (vs : _) → v ≡ Array vs → as_array (view v) ≡ Some (items_view vs.items)
items-of_array v vs is = ap (λ t. as_array (view t)) is ∙ ap as_array (view-Array vs)
