use Rattle.std.proofs.Common.{◌≡◌, ℕ, [], ◌∷◌, sym, ◌∙◌, ap, refl}
use Rattle.sc_definitions.specs.Ring.{Ops, IsRing, element, plus, times, minus}
use Rattle.sc_definitions.specs.Polynomials.{poly_at}
use Rattle.sc_definitions.specs.Rounds.{extrapolated}
use Rattle.sc_definitions.proofs.RingLaws.{element-small}
use Rattle.sc_definitions.proofs.Identity.{atom, unit, nought, ◌⊕◌, ◌⊗◌, ◌⊖◌, Agree, identity, same_element}
use Rattle.sc_table.proofs.lagrange.extrapolate_01inf.Goals as goal

module _ (o : Ops) (ring : IsRing o) (e0 e1 q : ℕ) where
  by_slope : (r : ℕ) → plus o e0 (times o (plus o (minus o e1 e0) (times o q (minus o r 1))) r) ≡ extrapolated o e0 e1 q r
  unfolding extrapolated Agree
  by_slope r =
      let A = atom 0 in let B = atom 1 in let Q = atom 2 in let R = atom 3 in
      identity o ring (e0 ∷ e1 ∷ q ∷ r ∷ [])
      (A ⊕ ((B ⊖ A) ⊕ Q ⊗ (R ⊖ unit)) ⊗ R)
      ((A ⊗ (unit ⊖ R) ⊕ B ⊗ R) ⊕ Q ⊗ (R ⊗ (R ⊖ unit))) tt tt refl

  extrapolated-zero : element o (extrapolated o e0 e1 q 0) ≡ element o e0
  unfolding extrapolated Agree
  extrapolated-zero =
      let A = atom 0 in let B = atom 1 in let Q = atom 2 in
      same_element o ring (e0 ∷ e1 ∷ q ∷ [])
      ((A ⊗ (unit ⊖ nought) ⊕ B ⊗ nought) ⊕ Q ⊗ (nought ⊗ (nought ⊖ unit))) A refl

  extrapolated-one : element o (extrapolated o e0 e1 q 1) ≡ element o e1
  unfolding extrapolated Agree
  extrapolated-one =
      let A = atom 0 in let B = atom 1 in let Q = atom 2 in
      same_element o ring (e0 ∷ e1 ∷ q ∷ [])
      ((A ⊗ (unit ⊖ unit) ⊕ B ⊗ unit) ⊕ Q ⊗ (unit ⊗ (unit ⊖ unit))) B refl

  extrapolated-coefficients : (r : ℕ) → extrapolated o e0 e1 q r ≡ poly_at o (e0 ∷ minus o (minus o e1 e0) q ∷ q ∷ []) r
  unfolding extrapolated poly_at Agree
  extrapolated-coefficients r =
      let A = atom 0 in let B = atom 1 in let Q = atom 2 in let R = atom 3 in
      identity o ring (e0 ∷ e1 ∷ q ∷ r ∷ [])
      ((A ⊗ (unit ⊖ R) ⊕ B ⊗ R) ⊕ Q ⊗ (R ⊗ (R ⊖ unit)))
      (A ⊕ R ⊗ (((B ⊖ A) ⊖ Q) ⊕ R ⊗ (Q ⊕ R ⊗ nought))) tt tt refl

pub returns-clause-value : goal.returns-clause-value
returns-clause-value g c =
    let f = g.F.Field in
    let one : f.number c.ONE.result ≡ 1 = ap f.number c.ONE.ensures ∙ g.met.F.Field.one_is in
    cc (c.sub.ensures, c.sub-2.ensures, c.mul.ensures, c.add-slope.ensures, c.mul-2.ensures, c.add.ensures, one)
    ∙ by_slope f.ops g.met.F.Field.is_field.ring (f.number c.args.e0) (f.number c.args.e1) (f.number c.args.e_inf) (f.number c.args.r)

pub returns-clause-at_zero : goal.returns-clause-at_zero
returns-clause-at_zero g c = λ zero.
    let f = g.F.Field in
    let ring = g.met.F.Field.is_field.ring in
    let e0 = f.number c.args.e0 in let e1 = f.number c.args.e1 in let q = f.number c.args.e_inf in
    sym (element-small f.ops ring (f.number c.add.result) (g.met.F.Field.number_below c.add.result))
    ∙ ap (element f.ops) (returns-clause-value g c ∙ ap (extrapolated f.ops e0 e1 q) zero)
    ∙ extrapolated-zero f.ops ring e0 e1 q
    ∙ element-small f.ops ring e0 (g.met.F.Field.number_below c.args.e0)

pub returns-clause-at_one : goal.returns-clause-at_one
returns-clause-at_one g c = λ one.
    let f = g.F.Field in
    let ring = g.met.F.Field.is_field.ring in
    let e0 = f.number c.args.e0 in let e1 = f.number c.args.e1 in let q = f.number c.args.e_inf in
    sym (element-small f.ops ring (f.number c.add.result) (g.met.F.Field.number_below c.add.result))
    ∙ ap (element f.ops) (returns-clause-value g c ∙ ap (extrapolated f.ops e0 e1 q) one)
    ∙ extrapolated-one f.ops ring e0 e1 q
    ∙ element-small f.ops ring e1 (g.met.F.Field.number_below c.args.e1)

pub returns-clause-coefficients : goal.returns-clause-coefficients
returns-clause-coefficients g c =
    let f = g.F.Field in
    returns-clause-value g c
    ∙ extrapolated-coefficients f.ops g.met.F.Field.is_field.ring (f.number c.args.e0) (f.number c.args.e1) (f.number c.args.e_inf) (f.number c.args.r)
