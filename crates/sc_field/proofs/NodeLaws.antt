-- Two polynomials that agree at enough nodes are equal.
use Rattle.std.proofs.Common.{◌≡◌, ℕ, ◌<◌, List, [], ◌∷◌, length, All, sym, ◌∙◌, ap, arith}
use Rattle.sc_definitions.specs.Ring.{Ops, IsField, minus}
use Rattle.sc_definitions.specs.Polynomials.{poly_at, poly_minus, AreRoots}
use Rattle.sc_definitions.proofs.RingLaws.{plus-opposite}
use Rattle.sc_definitions.proofs.RootLaws.{zero-from_roots}
use Rattle.sc_definitions.proofs.PolyLaws.{poly_at-minus, length-minus}
use Rattle.sc_definitions.proofs.InterpolationLaws.{same_coefficients}
use Rattle.sc_field.specs.Laws.{AreNodes, AgreeAt}

module _ (o : Ops) (field : IsField o) where
  -- the nodes are roots of their difference
  difference_roots : (cs ds nodes : List ℕ) → length cs ≡ length ds → AreNodes o nodes → AgreeAt o cs ds nodes → AreRoots o (poly_minus o cs ds) nodes
  difference_roots cs ds [] long different agree = tt
  difference_roots cs ds (x ∷ nodes) long different agree = (
    different.0,
    poly_at-minus o field.ring cs ds x long ∙ ap (λ v. minus o v (poly_at o ds x)) agree.0 ∙ plus-opposite o field.ring (poly_at o ds x),
    different.1,
    difference_roots cs ds nodes long different.2 agree.1,
  )

  pub unique : (nodes cs ds : List ℕ) → AreNodes o nodes → length cs ≡ length nodes → length ds ≡ length nodes →
      All (λ c. c < o.size) cs → All (λ d. d < o.size) ds → AgreeAt o cs ds nodes → cs ≡ ds
  unique nodes cs ds different many as_many below_c below_d agree =
      let long : length cs ≡ length ds = many ∙ sym as_many in
      let size = length-minus o field.ring cs ds long in
      same_coefficients o field cs ds long below_c below_d
      (zero-from_roots o field nodes (poly_minus o cs ds) (omega (arith, size, as_many)) (difference_roots cs ds nodes long different agree))
