-- The weights of an equality statement, row by row and at a point.
use Rattle.std.proofs.Common.{◌≡◌, ℕ, List, refl}
use Rattle.sc_definitions.specs.Ring.{Ops}
use Rattle.sc_definitions.specs.Tables.{Basis, equality_weight, value_in}
use Rattle.sc_definitions.specs.Statements.{equality, weight_of}

pub weight_of-equality : (o : Ops) (zs : List ℕ) (b : ℕ) → weight_of o (equality zs) b ≡ equality_weight o zs b
unfolding weight_of
weight_of-equality o zs b = refl

pub value-weight_of : (basis : Basis) (o : Ops) (zs xs : List ℕ) → value_in basis o (equality_weight o zs) xs ≡ value_in basis o (weight_of o (equality zs)) xs
unfolding weight_of
value-weight_of basis o zs xs = refl
