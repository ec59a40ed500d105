-- Polynomials by their coefficients, the constant first.
use Rattle.std.specs.Prelude.{◌≡◌, ◌≢◌, ℕ, zero, suc, ◌<◌, List, [], ◌∷◌}
use Rattle.sc_definitions.specs.Ring.{Ops, element, ◌+⟨◌⟩◌, ◌-⟨◌⟩◌, ◌*⟨◌⟩◌}

-- the value of a polynomial at x
unfoldable pub poly_at : Ops → List ℕ → ℕ → ℕ
poly_at o [] x = 0
poly_at o (c ∷ cs) x = c +⟨ o ⟩ x *⟨ o ⟩ poly_at o cs x

-- the sum of two polynomials, coefficient by coefficient
unfoldable pub poly_plus : Ops → List ℕ → List ℕ → List ℕ
poly_plus o [] ds = ds
poly_plus o (c ∷ cs) [] = c ∷ cs
poly_plus o (c ∷ cs) (d ∷ ds) = c +⟨ o ⟩ d ∷ poly_plus o cs ds

-- a polynomial times an element
unfoldable pub poly_scaled : Ops → ℕ → List ℕ → List ℕ
poly_scaled o x [] = []
poly_scaled o x (c ∷ cs) = x *⟨ o ⟩ c ∷ poly_scaled o x cs

-- the product of two polynomials
unfoldable pub poly_times : Ops → List ℕ → List ℕ → List ℕ
poly_times o [] ds = []
poly_times o (c ∷ cs) ds = poly_plus o (poly_scaled o c ds) (0 ∷ poly_times o cs ds)

-- the sum of the polynomials F k for k below n
unfoldable pub poly_sum : Ops → ℕ → (ℕ → List ℕ) → List ℕ
poly_sum o zero F = []
poly_sum o (suc n) F = poly_plus o (poly_sum o n F) (F n)

-- a polynomial less another of as many coefficients
unfoldable pub poly_minus : Ops → List ℕ → List ℕ → List ℕ
poly_minus o [] ds = []
poly_minus o (c ∷ cs) [] = c ∷ cs
poly_minus o (c ∷ cs) (d ∷ ds) = c -⟨ o ⟩ d ∷ poly_minus o cs ds

-- each coefficient is zero
abbrev pub AllZero : Ops → List ℕ → Type 0
AllZero o [] = Unit {0}
AllZero o (c ∷ cs) = (element o c ≡ 0) × AllZero o cs

-- r is none of these
abbrev pub IsNoneOf : ℕ → List ℕ → Type 0
IsNoneOf r [] = Unit {0}
IsNoneOf r (s ∷ ss) = (s ≢ r) × IsNoneOf r ss

-- different elements, each a root
abbrev pub AreRoots : Ops → List ℕ → List ℕ → Type 0
AreRoots o cs [] = Unit {0}
AreRoots o cs (r ∷ rs) = (r < o.size) × (poly_at o cs r ≡ 0) × IsNoneOf r rs × AreRoots o cs rs
