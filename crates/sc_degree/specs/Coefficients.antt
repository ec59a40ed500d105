-- Polynomials by their coefficients, times a line, and with a multiple of another one.
use Rattle.std.specs.Prelude.{ℕ, List, [], ◌∷◌}
use Rattle.sc_definitions.specs.Ring.{Ops, ◌+⟨◌⟩◌, ◌-⟨◌⟩◌, ◌*⟨◌⟩◌}

-- the coefficients of X - at times a polynomial, with `before` added to the first
unfoldable pub times_line : Ops → ℕ → ℕ → List ℕ → List ℕ
times_line o at before [] = before ∷ []
times_line o at before (c ∷ cs) = before -⟨ o ⟩ at *⟨ o ⟩ c ∷ times_line o at c cs

-- those of a polynomial with a multiple of another one, of as many, added
unfoldable pub plus_multiple : Ops → ℕ → List ℕ → List ℕ → List ℕ
plus_multiple o share [] ds = []
plus_multiple o share (c ∷ cs) [] = c ∷ cs
plus_multiple o share (c ∷ cs) (d ∷ ds) = c +⟨ o ⟩ share *⟨ o ⟩ d ∷ plus_multiple o share cs ds
