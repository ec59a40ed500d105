-- The values of weight tables at a point.
use Rattle.std.specs.Prelude.{ℕ, List, map, drop}
use Rattle.sc_definitions.specs.Ring.{Ops}
use Rattle.sc_definitions.specs.Tables.{Basis, value_in}
use Rattle.sc_definitions.specs.Statements.{Statement, weight_of}

-- the values in a basis of the statements' weight tables at a point
abbrev pub weight_values : Basis → Ops → List ℕ → List Statement → List ℕ
weight_values basis o row ss = map (λ s. value_in basis o (weight_of o s.kind) row) ss

-- those of the statements from a place on
abbrev pub weights_from : Basis → Ops → List ℕ → List Statement → ℕ → List ℕ
weights_from basis o row ss i = weight_values basis o row (drop i ss)
