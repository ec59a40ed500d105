-- The value of constraints' weights where the challenges end.
use Rattle.std.specs.Prelude.{ℕ, ◌-◌, List, [], ◌∷◌, length, drop}
use Rattle.sc_definitions.specs.Ring.{Ops, ◌+⟨◌⟩◌}
use Rattle.sc_definitions.specs.Tables.{Order, value, point_of}
use Rattle.sc_definitions.specs.Statements.{batched_weight}
use Rattle.sc_constraints.specs.declared.constraint.Constraint.{Constraint}
use Rattle.sc_constraints.specs.Constraints.{constraint_arity, constraint_challenge, constraint_power, constraint_statements}

-- the last k of some challenges
abbrev pub last_of : ℕ → List ℕ → List ℕ
last_of k rs = drop (length rs - k) rs

-- the value of a constraint's batched weights at the point that the last challenges make, as many as it has variables
abbrev pub constraint_value : {F EF : Type 0} → Ops → (F → ℕ) → (EF → ℕ) → Order → List ℕ → Constraint F EF → ℕ
constraint_value o of number order rs c =
    value o (batched_weight o (constraint_challenge number c) (constraint_power c) (constraint_statements of number c)) (point_of order (last_of (constraint_arity c) rs))

-- the sum of these values over constraints
abbrev pub constraints_value : {F EF : Type 0} → Ops → (F → ℕ) → (EF → ℕ) → Order → List ℕ → List (Constraint F EF) → ℕ
constraints_value o of number order rs [] = 0
constraints_value o of number order rs (c ∷ cs) = constraint_value o of number order rs c +⟨ o ⟩ constraints_value o of number order rs cs
