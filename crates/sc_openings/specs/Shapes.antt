-- Whether tables, the claims on them and the difficulty fit.
use Rattle.std.specs.Prelude.{◌≡◌, ℕ, suc, ◌<◌, ◌≤◌, ◌^◌, ◌==◌, All, List, [], ◌∷◌, length, nat_lt, if◌then◌else◌, Option, Some, None, Result, Ok, Err}
use Rattle.sc_definitions.specs.Statements.{arity_of}
use Rattle.sc_merge_definitions.specs.Openings.{TableClaim}
use Rattle.sc_openings.specs.declared.error.MergeError.{MergeError}
use Rattle.sc_openings.specs.declared.error.MergeError.TheVariants.{TableLength, ClaimTable, ClaimArity, Difficulty}
use Rattle.sc_openings.specs.OpeningsJobs.{OpeningsJob}

-- the first of two refusals, if one is
abbrev pub or_later : Option MergeError → Option MergeError → Option MergeError
or_later (Some e) later = Some e
or_later None later = later

-- the refusal that an answer is, if it is one
abbrev pub fault_in : {T : Type 0} → Result T MergeError → Option MergeError
fault_in (Ok x) = None
fault_in (Err e) = Some e

-- the first refusal that a test finds of things that are numbered from i on, if it finds one
abbrev pub first_fault : {X : Type 0} → (ℕ → X → Option MergeError) → ℕ → List X → Option MergeError
first_fault test i [] = None
first_fault test i (x ∷ xs) = or_later (test i x) (first_fault test (suc i) xs)

-- the most variables
abbrev pub most_opening_variables : ℕ
most_opening_variables = 16

-- table j has another length than that of so many variables
abbrev pub length_fault : ℕ → ℕ → ℕ → Option MergeError
length_fault n j len = if len == 2 ^ n then None else Some (TableLength j len)

-- table 0 is told
abbrev pub first_table_fault : List ℕ → Option MergeError
first_table_fault [] = None
first_table_fault (len ∷ lens) = Some (TableLength 0 len)

-- there are too many variables, which is told of table 0; or a table of one of these lengths has another one, and the first such table is told
abbrev pub tables_fault : ℕ → List ℕ → Option MergeError
tables_fault n lens = if nat_lt most_opening_variables n then first_table_fault lens else first_fault (length_fault n) 0 lens

-- claim c names none of so many tables
abbrev pub name_fault : ℕ → ℕ → TableClaim → Option MergeError
name_fault tables c claim = if nat_lt claim.table tables then None else Some (ClaimTable c claim.table)

-- the point of claim c has not so many coordinates
abbrev pub arity_fault : ℕ → ℕ → TableClaim → Option MergeError
arity_fault n c claim =
    if arity_of n claim.statement.kind == n then None else Some (ClaimArity c n (arity_of n claim.statement.kind))

-- the difficulty is above the greatest one
abbrev pub difficulty_fault : ℕ → ℕ → Option MergeError
difficulty_fault bits max_bits = if nat_lt max_bits bits then Some (Difficulty bits max_bits) else None

-- the first of these refusals, in this order, of tables of these lengths and claims on them
abbrev pub shape_fault : ℕ → List ℕ → List TableClaim → Option MergeError
shape_fault n lens claims =
    or_later (tables_fault n lens) (or_later (first_fault (name_fault (length lens)) 0 claims) (first_fault (arity_fault n) 0 claims))

-- the same, and then the difficulty
abbrev pub early_fault : OpeningsJob → Option MergeError
early_fault job =
    or_later (shape_fault job.case.variables job.lengths job.case.claims) (difficulty_fault job.case.channel.bits job.case.channel.rules.max_bits)

-- They fit: there are few variables, each table has as many entries as these say, each claim names a table, and its point has as many coordinates.
pub record AreFitting (n : ℕ) (lens : List ℕ) (claims : List TableClaim) : Type 0 where
  pub few : n ≤ 16
  pub lengths : All (λ len. len ≡ 2 ^ n) lens
  pub named : All (λ c. c.table < length lens) claims
  pub arities : All (λ c. arity_of n c.statement.kind ≡ n) claims
