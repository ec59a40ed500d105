-- The interpolator of a degree, as contracts see it.
use Rattle.std.specs.Prelude.{ℕ, ◌-◌, length}
use Rattle.sc_field.specs.declared.field.Field.{Ghosts as FieldOf}
use Rattle.std.specs.declared.cmp.PartialEq.{Ghosts as PartialEqOf}
use Rattle.sc_degree.specs.declared.util.RoundPolyInterpolator.{RoundPolyInterpolator}

module _ {EF : Type 0} {f : FieldOf EF} {q : PartialEqOf EF} where
  -- its degree: one less than the nodes are
  abbrev pub degree_of : RoundPolyInterpolator EF f q → ℕ
  degree_of p = length p.weights.items - 1
