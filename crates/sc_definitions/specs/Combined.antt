-- Weights of several kinds that are added up, each times a coefficient.
use Rattle.std.specs.Prelude.{ℕ, suc, List, [], ◌∷◌}
use Rattle.sc_definitions.specs.Ring.{Ops, ◌+⟨◌⟩◌, ◌*⟨◌⟩◌, power}
use Rattle.sc_definitions.specs.Statements.{Kind, Statement, weight_of}

-- a kind of weights, and what they are multiplied by
pub record Scaled : Type 0 where
  pub kind : Kind
  pub coefficient : ℕ

-- the weights of all at a row
unfoldable pub combined_weight : Ops → List Scaled → ℕ → ℕ
combined_weight o [] b = 0
combined_weight o (c ∷ cs) b = c.coefficient *⟨ o ⟩ weight_of o c.kind b +⟨ o ⟩ combined_weight o cs b

-- the kinds of statements: the first has the coefficient c^p, and each other one power more than the one before it
unfoldable pub scaled_from : Ops → ℕ → ℕ → List Statement → List Scaled
scaled_from o c p [] = []
scaled_from o c p (s ∷ ss) = record { kind = s.kind; coefficient = power o c p } ∷ scaled_from o c (suc p) ss
