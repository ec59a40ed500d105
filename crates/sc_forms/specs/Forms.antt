-- Forms that a JSON value may have, and what it is read as.
use Rattle.std.specs.Prelude.{ℕ, List, [], ◌∷◌, length, Bool, ⊤, ◌==◌, nat_lt, nat_le, bytes_eq, if◌then◌else◌, Option, Some, None, is_some, option_map, option_and_then}
use Rattle.serde_json.specs.Data.{Data, Items, no_items, item}
use Rattle.serde_json.specs.Find.{get, as_array, as_number, as_object, as_str, as_u64}

-- ---- numbers and words

-- a number that is given as a `u64`: digits without a sign, a fraction or an exponent
abbrev pub unsigned_form : Data → Option ℕ
unsigned_form d = option_and_then as_u64 (as_number d)

-- an unsigned number below a bound
abbrev pub below_form : ℕ → Data → Option ℕ
below_form bound d = option_and_then (λ n. if nat_lt n bound then Some n else None) (unsigned_form d)

-- an unsigned number that is at most another
abbrev pub at_most_form : ℕ → Data → Option ℕ
at_most_form most d = option_and_then (λ n. if nat_le n most then Some n else None) (unsigned_form d)

-- the string with exactly this text
abbrev pub literal_form : List ℕ → Data → Option ⊤
literal_form text d = option_and_then (λ s. if bytes_eq s text then Some tt else None) (as_str d)

-- ---- lists

-- the items of an array
abbrev pub list_of : Items → List Data
list_of no_items = []
list_of (item d ds) = d ∷ list_of ds

-- what each is read as, if each is of the form
abbrev pub all_of : {A B : Type 0} → (A → Option B) → List A → Option (List B)
all_of form [] = Some []
all_of form (x ∷ xs) = option_and_then (λ y. option_map (λ ys. y ∷ ys) (all_of form xs)) (form x)

-- a list of items of a form
abbrev pub list_form : {B : Type 0} → (Data → Option B) → Data → Option (List B)
list_form form d = option_and_then (λ ds. all_of form (list_of ds)) (as_array d)

-- a list of so many items of a form
abbrev pub list_of_length_form : {B : Type 0} → (Data → Option B) → ℕ → Data → Option (List B)
list_of_length_form form count d = option_and_then (λ xs. if length xs == count then Some xs else None) (list_form form d)

-- two items of a form, and no third
abbrev pub both_of : {A B : Type 0} → (A → Option B) → List A → Option (B × B)
both_of form [] = None
both_of form (x ∷ []) = None
both_of form (x ∷ y ∷ []) = option_and_then (λ a. option_map (λ b. (a, b)) (form y)) (form x)
both_of form (x ∷ y ∷ z ∷ more) = None

-- a list of two items of a form
abbrev pub pair_form : {B : Type 0} → (Data → Option B) → Data → Option (B × B)
pair_form form d = option_and_then (λ ds. both_of form (list_of ds)) (as_array d)

-- ---- objects

-- whether a value is an object
abbrev pub is_object : Data → Bool
is_object d = is_some (as_object d)

-- the member of this name, in a form
abbrev pub member_form : {B : Type 0} → (Data → Option B) → List ℕ → Data → Option B
member_form form name d = option_and_then form (get name d)
