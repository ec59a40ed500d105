-- Whether the tables and the difficulty of what is asked fit, and how many variables the tables have.
use Rattle.std.specs.Prelude.{ℕ, ◌-◌, ◌==◌, ◌^◌, List, [], ◌∷◌, length, map, nat_lt, if◌then◌else◌, Option, Some, None, Result, Ok, Err}
use Rattle.sc_definitions.specs.Tables.{rows_of}
use Rattle.sc_audit_errors.specs.Arities.{arity_of}
use Rattle.sc_product_audit.specs.declared.error.ProductError.{ProductError}
use Rattle.sc_product_audit.specs.declared.error.ProductError.TheVariants.{TableLength, TableCount, Difficulty}
use Rattle.sc_product_audit.specs.ProductCases.{ProductAsked, ProductCase, case_over}

-- the number n of variables, where each of these lengths is 2^n, or else the first one that is another
abbrev pub arity_with : ℕ → List ℕ → Result ℕ ℕ
arity_with n [] = Ok n
arity_with n (len ∷ lens) = if len == 2 ^ n then arity_with n lens else Err len

abbrev pub arity_by : Option ℕ → ℕ → List ℕ → Result ℕ ℕ
arity_by None len lens = Err len
arity_by (Some n) len lens = arity_with n lens

-- how many variables tables of these lengths have, at most the greatest number; or the first length that is no power of two up to that of this number, or
-- another than the first one; or 0 where there is no table
abbrev pub arity_over : List ℕ → Result ℕ ℕ
arity_over [] = Err 0
arity_over (len ∷ lens) = arity_by (arity_of len) len lens

-- The number of variables, unless a length is wrong, or so many tables are not fewer than the elements of a field of this size, or the difficulty is above
-- the challenger's bound.
abbrev pub shape_from : Result ℕ ℕ → ℕ → ℕ → ℕ → ℕ → Result ℕ ProductError
shape_from (Err len) tables size bits max_bits = Err (TableLength len)
shape_from (Ok n) tables size bits max_bits =
    if nat_lt tables size
    then (if nat_lt max_bits bits then Err (Difficulty bits max_bits) else Ok n)
    else Err (TableCount tables (size - 1))

-- how many variables the tables have, or the first that does not fit
abbrev pub product_shape : ProductAsked → Result ℕ ProductError
product_shape q = shape_from (arity_over (map length q.tables)) (length q.tables) q.ops.size q.channel.bits q.channel.rules.max_bits

-- so many variables, and none where the shape is refused
abbrev pub variables_or_none : Result ℕ ProductError → ℕ
variables_or_none (Ok n) = n
variables_or_none (Err e) = 0

-- the case on tables of n variables
abbrev pub case_with : ProductAsked → ℕ → ProductCase
case_with q n = case_over q.ops (map rows_of q.tables) n q.channel q.history

-- the case that is asked about
abbrev pub case_asked : ProductAsked → ProductCase
case_asked q = case_with q (variables_or_none (product_shape q))
