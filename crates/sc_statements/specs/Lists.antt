-- What contracts see of lists of weights with claimed values.
use Rattle.std.specs.Prelude.{◌≡◌, ℕ, zero, suc, List, [], ◌∷◌, map}
use Rattle.sc_definitions.specs.Statements.{Kind, Statement, claims}
use Rattle.sc_statements.specs.declared.evaluated.EvaluatedConstraint.{EvaluatedConstraint}

-- that a table has this sum under these weights
abbrev pub evaluated : {W EF : Type 0} → (W → Kind) → (EF → ℕ) → EvaluatedConstraint W EF → Statement
evaluated kind number c = claims (kind c.weights) (number c.eval)

-- the statements of a list, in order
abbrev pub evaluated_all : {W EF : Type 0} → (W → Kind) → (EF → ℕ) → List (EvaluatedConstraint W EF) → List Statement
evaluated_all kind number cs = map (evaluated kind number) cs

-- this is the statement at a place
abbrev pub IsAt : List Statement → ℕ → Statement → Type 0
IsAt [] i s = ⊥
IsAt (t ∷ ss) zero s = t ≡ s
IsAt (t ∷ ss) (suc i) s = IsAt ss i s
