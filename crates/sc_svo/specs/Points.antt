-- What clauses see of a point in two parts.
use Rattle.std.specs.Prelude.{ℕ, List, map}
use Rattle.std.specs.declared.cmp.PartialEq.{Ghosts as PartialEqOf}
use Rattle.sc_definitions.specs.Tables.{Order}
use Rattle.sc_field.specs.declared.field.Field.{Ghosts as FieldOf}
use Rattle.sc_field.specs.declared.algebra.Algebra.{Ghosts as AlgebraOf}
use Rattle.sc_field.specs.declared.algebra.ExtensionField.{Ghosts as ExtensionOf}
use Rattle.sc_table.specs.Strategy.{order_of}
use Rattle.sc_partials.specs.Partials.{joined}
use Rattle.sc_svo.specs.declared.point.SvoPoint.{SvoPoint}

module _ {F EF : Type 0} {f : FieldOf F} {p : PartialEqOf F} {x : ExtensionOf EF F} {a : AlgebraOf EF F} {e : FieldOf EF} {q : PartialEqOf EF} where
  -- in which order the variables are bound
  abbrev pub order_in : SvoPoint F EF f p x a e q → Order
  order_in s = order_of s.order

  -- the coordinates of the variables that small-value rounds bind, and those of the others
  abbrev pub near_in : SvoPoint F EF f p x a e q → List ℕ
  near_in s = map e.number s.near

  abbrev pub far_in : SvoPoint F EF f p x a e q → List ℕ
  far_in s = map e.number s.far

  -- the whole point
  abbrev pub point_in : SvoPoint F EF f p x a e q → List ℕ
  point_in s = joined (order_in s) (near_in s) (far_in s)
