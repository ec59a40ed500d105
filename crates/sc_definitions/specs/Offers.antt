-- That a basis is offered with an order is known in one way, so that a type can keep it.
use Rattle.sc_definitions.specs.Tables.{Basis, evaluation, projective, Order, prefix, suffix, IsOffered}
use mathlib.Core.HLevel.{Unit-prop}

pub IsOffered-prop : (basis : Basis) (order : Order) → IsProp (IsOffered basis order)
IsOffered-prop evaluation order = Unit-prop
IsOffered-prop projective prefix = Unit-prop
IsOffered-prop projective suffix = λ x y. absurd x
