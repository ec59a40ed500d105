-- How many variables a table has.
use Rattle.std.specs.Prelude.{ℕ, zero, suc, ◌^◌, ◌==◌, if◌then◌else◌, Option, Some, None}

-- the first of the `count` numbers from n on that 2 has to be raised to
abbrev pub exponent_from : ℕ → ℕ → ℕ → Option ℕ
exponent_from n zero len = None
exponent_from n (suc count) len = if len == 2 ^ n then Some n else exponent_from (suc n) count len

-- the greatest number of variables
abbrev pub most_variables : ℕ
most_variables = 24

-- the number of variables, at most the greatest one, of a table of so many rows
unfoldable pub arity_of : ℕ → Option ℕ
arity_of len = exponent_from 0 (suc most_variables) len
