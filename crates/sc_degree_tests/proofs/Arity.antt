-- Tables of one arity.
use Rattle.std.proofs.Common.{◌≡◌, ℕ, ◌<◌, List, [], ◌∷◌, length, arith}
use Rattle.sc_table.specs.declared.poly.Poly.{Poly}
use Rattle.sc_degree.specs.Arities.{first_arity, HaveArity}

pub first_arity-is : {A : Type 0} (n : ℕ) (ts : List (Poly A)) → 0 < length ts → HaveArity n ts → first_arity ts ≡ n
first_arity-is n [] some all = absurd (omega (arith, some))
first_arity-is n (t ∷ ts) some all = all 0 t (omega arith)
