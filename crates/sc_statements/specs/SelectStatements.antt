-- What contracts see of a selecting statement.
use Rattle.std.specs.Prelude.{ℕ, List, [], ◌∷◌, ◌++◌, map, slice_index}
use Rattle.sc_definitions.specs.Statements.{powers, products, Kind, Statement, claims}
use Rattle.sc_weights.specs.declared.select.Selector.{Selector}
use Rattle.sc_weights.specs.Selectors.{selected_kind}
use Rattle.sc_statements.specs.declared.statement.select.SelectStatement.{SelectStatement}
use Rattle.sc_statements.specs.Lists.{IsAt}

-- how many variables its tables have
abbrev pub select_arity : {F EF : Type 0} → SelectStatement F EF → ℕ
select_arity s = s.num_variables

-- kinds with their claimed values, in order
abbrev pub claims_of : List Kind → List ℕ → List Statement
claims_of [] values = []
claims_of (kind ∷ kinds) [] = []
claims_of (kind ∷ kinds) (v ∷ values) = claims kind v ∷ claims_of kinds values

-- what its statements speak of, in order: the scalars, and the direct points
abbrev pub select_kinds : {F EF : Type 0} → (F → ℕ) → SelectStatement F EF → List Kind
select_kinds of s = map (λ x. powers (of x)) s.vars.items ++ map (λ p. products (map of p)) s.points.items

-- its statements, in order; the scalars and the coordinates have these numbers in the extension
abbrev pub select_statements : {F EF : Type 0} → (F → ℕ) → (EF → ℕ) → SelectStatement F EF → List Statement
select_statements of number s = claims_of (select_kinds of s) (map number s.evaluations.items)

-- its scalars
abbrev pub scalars_of : {F EF : Type 0} → SelectStatement F EF → List F
scalars_of s = s.vars.items

-- its direct points
abbrev pub points_of : {F EF : Type 0} → SelectStatement F EF → List (List F)
points_of s = s.points.items

-- the statement at a place is what this selector and the value there claim
abbrev pub SelectsAt : {F EF : Type 0} → (F → ℕ) → (EF → ℕ) → SelectStatement F EF → ℕ → Selector F → Type 0
SelectsAt of number s i selector = IsAt (select_statements of number s) i (claims (selected_kind of selector) (slice_index (map number s.evaluations.items) i))
