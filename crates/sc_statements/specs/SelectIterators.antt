-- What contracts see of the iterator over scalars.
use Rattle.std.specs.Prelude.{ℕ, List, map}
use Rattle.std.specs.Borrow.{Bor}
use Rattle.sc_definitions.specs.Statements.{powers, Statement, claims}
use Rattle.sc_statements.specs.SelectStatements.{claims_of}
use Rattle.sc_statements.specs.declared.statement.select.SelectIter.{SelectIter}

-- the statement that a scalar and a value are
abbrev pub scalar_pair : {F EF : Type 0} → (F → ℕ) → (EF → ℕ) → Bor F × Bor EF → Statement
scalar_pair of number p = claims (powers (of p.0.now)) (number p.1.now)

-- the statements that scalars and values are, place by place
abbrev pub scalar_statements : {F EF : Type 0} → (F → ℕ) → (EF → ℕ) → List F → List EF → List Statement
scalar_statements of number vars values = claims_of (map (λ x. powers (of x)) vars) (map number values)

-- the statements whose scalars and values are still to come
abbrev pub scalars_left : {F EF : Type 0} → (F → ℕ) → (EF → ℕ) → SelectIter F EF → List Statement
scalars_left of number s = scalar_statements of number s.vars.now s.evaluations.now
