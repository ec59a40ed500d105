-- What contracts see of a successor statement.
use Rattle.std.specs.Prelude.{ℕ, List, [], ◌∷◌, map, zero, suc}
use Rattle.sc_definitions.specs.Statements.{successor, Kind, Statement}
use Rattle.sc_table.specs.Strategy.{order_of}
use Rattle.sc_weights.specs.declared.next.NextConstraint.{NextConstraint}
use Rattle.sc_statements.specs.declared.evaluated.EvaluatedConstraint.{EvaluatedConstraint}
use Rattle.sc_statements.specs.declared.statement.next.NextStatement.{NextStatement}
use Rattle.sc_statements.specs.Lists.{evaluated_all}

-- how many variables its tables have
abbrev pub next_arity : {EF : Type 0} → NextStatement EF → ℕ
next_arity s = s.num_variables

-- what a statement with this selector and point speaks of
abbrev pub next_kind : {EF : Type 0} → (EF → ℕ) → NextConstraint EF → Kind
next_kind number c = successor (order_of c.var_order) (map number c.selector) (map number c.point)

-- its statements, in order
abbrev pub next_statements : {EF : Type 0} → (EF → ℕ) → NextStatement EF → List Statement
next_statements number s = evaluated_all (next_kind number) number s.constraints.items

-- the selector at a place, or none past the end
abbrev pub selector_at : {EF : Type 0} → List (EvaluatedConstraint (NextConstraint EF) EF) → ℕ → List EF
selector_at [] i = []
selector_at (c ∷ cs) zero = c.weights.selector
selector_at (c ∷ cs) (suc i) = selector_at cs i

-- the point at a place, or none past the end
abbrev pub point_at : {EF : Type 0} → List (EvaluatedConstraint (NextConstraint EF) EF) → ℕ → List EF
point_at [] i = []
point_at (c ∷ cs) zero = c.weights.point
point_at (c ∷ cs) (suc i) = point_at cs i

-- the selector of a statement
abbrev pub selector_of : {EF : Type 0} → NextStatement EF → ℕ → List EF
selector_of s i = selector_at s.constraints.items i

-- the point of a statement
abbrev pub point_of : {EF : Type 0} → NextStatement EF → ℕ → List EF
point_of s i = point_at s.constraints.items i
