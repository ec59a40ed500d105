-- Tables of as many variables each.
use Rattle.std.specs.Prelude.{◌≡◌, ℕ, List, [], ◌∷◌, All}
use Rattle.sc_table.specs.declared.poly.Poly.{Poly}
use Rattle.sc_table.specs.Polys.{variables_of}

-- how many variables the first of these tables has
abbrev pub first_arity : {A : Type 0} → List (Poly A) → ℕ
first_arity [] = 0
first_arity (t ∷ ts) = variables_of t

-- each of these tables has so many variables
abbrev pub HaveArity : {A : Type 0} → ℕ → List (Poly A) → Type 0
HaveArity n ts = All (λ t. variables_of t ≡ n) ts
