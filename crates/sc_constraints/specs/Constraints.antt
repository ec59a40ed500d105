-- What contracts see of a constraint.
use Rattle.std.specs.Prelude.{ℕ, List}
use Rattle.sc_definitions.specs.Statements.{Statement}
use Rattle.sc_constraints.specs.declared.statement.Statements.{Statements}
use Rattle.sc_constraints.specs.declared.constraint.Constraint.{Constraint}
use Rattle.sc_constraints.specs.Groups.{all_statements}

-- how many variables its tables have
abbrev pub constraint_arity : {F EF : Type 0} → Constraint F EF → ℕ
constraint_arity c = c.num_variables

-- its groups, in order
abbrev pub constraint_groups : {F EF : Type 0} → Constraint F EF → List (Statements F EF)
constraint_groups c = c.statements.items

-- the statements of all its groups, in order; the base field's elements have the numbers that come first, in the extension
abbrev pub constraint_statements : {F EF : Type 0} → (F → ℕ) → (EF → ℕ) → Constraint F EF → List Statement
constraint_statements of number c = all_statements of number c.statements.items

-- the challenge whose powers batch the statements
abbrev pub constraint_challenge : {F EF : Type 0} → (EF → ℕ) → Constraint F EF → ℕ
constraint_challenge number c = number c.challenge

-- the power of the first statement
abbrev pub constraint_power : {F EF : Type 0} → Constraint F EF → ℕ
constraint_power c = c.initial_power
