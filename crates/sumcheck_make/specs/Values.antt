-- What clauses see of the values that a number begins.
use Rattle.std.specs.Prelude.{◌≡◌, ℕ, ◌+◌, List, length, map}
use Rattle.sc_small_fields.specs.declared.f65537.F65537.{F65537}
use Rattle.sumcheck_make.specs.declared.values.Values.{Values}
use Rattle.sumcheck_make.specs.Made.{value_at, values_behind, Parts, parts_of, parts_end}

-- the last one that was taken
abbrev pub last_of : Values → ℕ
last_of v = v.last

-- the number of an element
abbrev pub number_of : F65537 → ℕ
number_of x = x.value

-- Where the old elements are those that stand after one that a number begins, so are the new ones.
abbrev pub GoOn : List F65537 → List F65537 → Type 0
GoOn old new =
    (number i : ℕ) → map number_of old ≡ values_behind number i (length old) → map number_of new ≡ values_behind number i (length new)

-- Where one was the last that was taken, these are so many as stand after it, and the last one is the last of them.
abbrev pub AreBehind : ℕ → List F65537 → ℕ → ℕ → Type 0
AreBehind last taken count last' =
    (number i : ℕ) → last ≡ value_at number i → (map number_of taken ≡ values_behind number i count) × (last' ≡ value_at number (i + count))

-- Where the last that was taken is the number that begins them, these are the parts of a job of n variables, and the last one is the last of them.
abbrev pub AreParts : ℕ → Parts → ℕ → ℕ → Type 0
AreParts last parts n last' =
    (number : ℕ) → last ≡ number → (parts ≡ parts_of number n) × (last' ≡ value_at number (parts_end n))
