-- The polynomial that values at nodes send under a claim has the claim as the sum of its values at 0 and at 1.
use Rattle.std.proofs.Common.{◌≡◌, ℕ, suc, ◌<◌, ◌≤◌, List, [], ◌∷◌, length, sym, ◌∙◌, ap, refl, arith}
use Rattle.sc_definitions.specs.Ring.{Ops, IsField, element, plus, minus}
use Rattle.sc_definitions.specs.Polynomials.{poly_at}
use Rattle.sc_definitions.specs.Interpolation.{through, sent_through}
use Rattle.sc_definitions.proofs.RingLaws.{element-plus, plus-element_left, plus-element_right}
use Rattle.sc_definitions.proofs.InterpolationLaws.{length-through, through-at}
use Rattle.sc_definitions.proofs.Identity.{atom, ◌⊕◌, ◌⊖◌, Agree, same_element}

module _ (o : Ops) (field : IsField o) (d : ℕ) (some : 1 ≤ d) (few : d < o.size) where
  pub through-width : (claim : ℕ) (values : List ℕ) → length values ≡ d → length (sent_through o claim values) ≡ suc d
  unfolding sent_through
  through-width claim [] wide = absurd (omega (arith, wide, some))
  through-width claim (v ∷ vs) wide = length-through o field.ring v (minus o claim v ∷ vs) ∙ ap suc wide

  pub through-both : (claim : ℕ) (values : List ℕ) → length values ≡ d →
      plus o (poly_at o (sent_through o claim values) 0) (poly_at o (sent_through o claim values) 1) ≡ element o claim
  unfolding sent_through Agree
  through-both claim [] wide = absurd (omega (arith, wide, some))
  through-both claim (v ∷ vs) wide =
      let ys = v ∷ minus o claim v ∷ vs in
      let long : length ys ≤ o.size = omega (arith, wide, few) in
      ap (λ a. plus o a (poly_at o (through o ys) 1)) (through-at o field ys 0 (omega arith) long)
      ∙ ap (plus o (element o v)) (through-at o field ys 1 (omega arith) long)
      ∙ plus-element_left o field.ring v (element o (minus o claim v)) ∙ plus-element_right o field.ring v (minus o claim v)
      ∙ sym (element-plus o field.ring v (minus o claim v)) ∙ same_element o field.ring (v ∷ claim ∷ []) (atom 0 ⊕ (atom 1 ⊖ atom 0)) (atom 1) refl
