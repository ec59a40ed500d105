-- What contracts see of a group of statements.
use Rattle.std.specs.Prelude.{ℕ, List}
use Rattle.std.specs.List.{flat_map}
use Rattle.sc_definitions.specs.Statements.{Statement}
use Rattle.sc_constraints.specs.declared.statement.Statements.{Statements}
use Rattle.sc_constraints.specs.declared.statement.Statements.TheVariants.{Eq, Next, Select}
use Rattle.sc_statements.specs.EqStatements.{eq_arity, eq_statements}
use Rattle.sc_statements.specs.NextStatements.{next_arity, next_statements}
use Rattle.sc_statements.specs.SelectStatements.{select_arity, select_statements}

-- how many variables its tables have
abbrev pub group_arity : {F EF : Type 0} → Statements F EF → ℕ
group_arity (Eq s) = eq_arity s
group_arity (Next s) = next_arity s
group_arity (Select s) = select_arity s

-- its statements, in order; the base field's elements have the numbers that come first, in the extension
abbrev pub group_statements : {F EF : Type 0} → (F → ℕ) → (EF → ℕ) → Statements F EF → List Statement
group_statements of number (Eq s) = eq_statements number s
group_statements of number (Next s) = next_statements number s
group_statements of number (Select s) = select_statements of number s

-- the statements of several groups, in order
abbrev pub all_statements : {F EF : Type 0} → (F → ℕ) → (EF → ℕ) → List (Statements F EF) → List Statement
all_statements of number groups = flat_map (group_statements of number) groups
