-- Statements that claim other values.
use Rattle.std.specs.Prelude.{ℕ, zero, suc, List, [], ◌∷◌, map}
use Rattle.sc_definitions.specs.Ring.{Ops}
use Rattle.sc_definitions.specs.Statements.{Statement, claims, true_value}

-- the statements, of which the one at a place claims another value
abbrev pub with_value : List Statement → ℕ → ℕ → List Statement
with_value [] i v = []
with_value (s ∷ ss) zero v = claims s.kind v ∷ ss
with_value (s ∷ ss) (suc i) v = s ∷ with_value ss i v

-- the statements, of which each claims the value at its place, as far as there are values
abbrev pub with_values : List Statement → List ℕ → List Statement
with_values ss [] = ss
with_values [] (v ∷ vs) = []
with_values (s ∷ ss) (v ∷ vs) = claims s.kind v ∷ with_values ss vs

-- the statement that claims its true value of a table of n variables, in place of another one
abbrev pub stated_truly : Ops → ℕ → (ℕ → ℕ) → Statement → Statement
stated_truly o n f s = claims s.kind (true_value o n f s.kind)

-- the statements, of which each claims its true value
abbrev pub all_stated_truly : Ops → ℕ → (ℕ → ℕ) → List Statement → List Statement
all_stated_truly o n f ss = map (stated_truly o n f) ss
