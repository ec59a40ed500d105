-- What contracts see of an equality statement.
use Rattle.std.specs.Prelude.{ℕ, List, map}
use Rattle.sc_definitions.specs.Statements.{equality, Kind, Statement}
use Rattle.sc_statements.specs.declared.statement.eq.EqStatement.{EqStatement}
use Rattle.sc_statements.specs.Lists.{evaluated_all}

-- how many variables its tables have
abbrev pub eq_arity : {EF : Type 0} → EqStatement EF → ℕ
eq_arity s = s.num_variables

-- what a statement at this point speaks of
abbrev pub point_kind : {EF : Type 0} → (EF → ℕ) → List EF → Kind
point_kind number point = equality (map number point)

-- its statements, in order
abbrev pub eq_statements : {EF : Type 0} → (EF → ℕ) → EqStatement EF → List Statement
eq_statements number s = evaluated_all (point_kind number) number s.constraints.items
