-- What is said of statements that are made of claims: which ones they are, and on tables of how many variables.
use Rattle.std.specs.Prelude.{◌≡◌, ℕ, List}
use Rattle.sc_definitions.specs.Statements.{Statement}
use Rattle.sc_statements.specs.declared.statement.eq.EqStatement.{EqStatement}
use Rattle.sc_statements.specs.declared.statement.next.NextStatement.{NextStatement}
use Rattle.sc_statements.specs.declared.statement.select.SelectStatement.{SelectStatement}
use Rattle.sc_statements.specs.EqStatements.{eq_arity, eq_statements}
use Rattle.sc_statements.specs.NextStatements.{next_arity, next_statements}
use Rattle.sc_statements.specs.SelectStatements.{select_arity, select_statements}
use Rattle.sc_constraints.specs.declared.statement.Statements.{Statements}
use Rattle.sc_constraints.specs.declared.constraint.Constraint.{Constraint}
use Rattle.sc_constraints.specs.Constraints.{constraint_arity, constraint_statements}
use Rattle.sc_constraints.specs.Groups.{group_arity, group_statements}

-- These are on tables of n variables, and they are the listed ones.
abbrev pub EqStates : {F : Type 0} → (F → ℕ) → ℕ → List Statement → EqStatement F → Type 0
EqStates number n listed s = (eq_statements number s ≡ listed) × (eq_arity s ≡ n)

abbrev pub NextStates : {F : Type 0} → (F → ℕ) → ℕ → List Statement → NextStatement F → Type 0
NextStates number n listed s = (next_statements number s ≡ listed) × (next_arity s ≡ n)

-- Below, the values are in the extension, in which an element of the base field has the number that the embedding gives it.
abbrev pub SelectStates : {F EF : Type 0} → (F → ℕ) → (ℕ → ℕ) → (EF → ℕ) → ℕ → List Statement → SelectStatement F EF → Type 0
SelectStates base embedding number n listed s =
    (select_statements (λ x. embedding (base x)) number s ≡ listed) × (select_arity s ≡ n)

abbrev pub GroupStates : {F EF : Type 0} → (F → ℕ) → (ℕ → ℕ) → (EF → ℕ) → ℕ → List Statement → Statements F EF → Type 0
GroupStates base embedding number n listed g =
    (group_statements (λ x. embedding (base x)) number g ≡ listed) × (group_arity g ≡ n)

abbrev pub ConstraintStates : {F EF : Type 0} → (F → ℕ) → (ℕ → ℕ) → (EF → ℕ) → ℕ → List Statement → Constraint F EF → Type 0
ConstraintStates base embedding number n listed c =
    (constraint_statements (λ x. embedding (base x)) number c ≡ listed) × (constraint_arity c ≡ n)
