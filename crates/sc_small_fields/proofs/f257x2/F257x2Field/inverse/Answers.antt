use Rattle.std.proofs.Common.{◌≡◌, ap, sym, ◌∙◌, refl}
use Rattle.sc_definitions.specs.Ring.{times, minus, opposite}
use Rattle.sc_definitions.specs.Residues.{residues}
use Rattle.sc_definitions.specs.Quadratic.{pair, quadratic}
use Rattle.sc_small_fields.specs.F257Laws.{f257_field}
use Rattle.sc_small_fields.specs.F257x2Laws.{f257x2_field, no_root}
use Rattle.sc_small_fields.specs.QuadraticLaws.{same_pair}
use Rattle.sc_small_fields.specs.QuadraticFields.{inverse-pair, zero-from_norm}
use Rattle.sc_small_fields.proofs.PairLaws.{norm_is, unit_not_zero, some_not_none}
use Rattle.sc_small_fields.proofs.f257x2.F257x2Field.inverse.Goals as goal

inverted : (c : goal.After-neg) →
    times (quadratic (residues 257) 3) (pair (residues 257) c.args.self.low.value c.args.self.high.value) (pair (residues 257) c.mul.result.value c.neg.result.value) ≡ 1
inverted c =
    let o = residues 257 in let ring = f257_field.ring in
    let a = c.args.self.low.value in let b = c.args.self.high.value in let i = c.in-Some.scale.value in
    let is_norm : c.sub-norm.result.value ≡ minus o (times o a a) (times o 3 (times o b b)) =
    norm_is a b c.element.ensures c.square.ensures c.mul-triple.ensures c.square-2.ensures c.sub-norm.ensures in
    ap (times (quadratic o 3) (pair o a b)) (same_pair o ring c.mul.ensures (c.neg.ensures ∙ ap (opposite o) c.mul-in-Some.ensures))
    ∙ inverse-pair o ring 3 a b i c.args.self.low.below c.args.self.high.below
    (ap (λ n. times o n i) (sym is_norm) ∙ c.in-Some.ensures.product)

pub returns-in-Some-clause-none : goal.returns-in-Some-clause-none
returns-in-Some-clause-none c =
    (λ e. absurd (some_not_none e), λ e. absurd (unit_not_zero (quadratic (residues 257) 3) f257x2_field.ring _ _ (inverted c) e))

pub returns-in-Some-clause-product : goal.returns-in-Some-clause-product
returns-in-Some-clause-product c = inverted c

pub returns-in-None-clause-none : goal.returns-in-None-clause-none
returns-in-None-clause-none c =
    let o = residues 257 in
    let a = c.args.self.low.value in let b = c.args.self.high.value in
    let is_norm : c.sub-norm.result.value ≡ minus o (times o a a) (times o 3 (times o b b)) =
    norm_is a b c.element.ensures c.square.ensures c.mul-triple.ensures c.square-2.ensures c.sub-norm.ensures in (
      λ e. zero-from_norm o f257_field.ring f257_field 3 no_root a b c.args.self.low.below c.args.self.high.below (sym is_norm ∙ c.in-None.ensures.none.0 refl),
      λ e. refl,
    )
