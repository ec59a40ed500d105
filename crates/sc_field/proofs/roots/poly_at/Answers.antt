use Rattle.std.proofs.Common.{◌-◌, length, map, sym, ap, ◌∙◌, arith}
use Rattle.std.proofs.lemmas.List.{length-map}
use Rattle.sc_definitions.specs.Ring.{plus}
use Rattle.sc_field.proofs.RootLaws.{horner, value-none, value-all}
use Rattle.sc_field.proofs.roots.poly_at.Goals as goal

pub loop-i-init : goal.loop-i-init
loop-i-init g c =
    let f = g.F.Field in
    let n = length c.args.coeffs.now in
    ap f.number c.ZERO-value.ensures ∙ g.met.F.Field.zero_is
    ∙ sym (value-none f.ops (n - 0) (map f.number c.args.coeffs.now) (f.number c.args.x) (length-map _ _ ∙ omega arith))

-- one coefficient more, before the others
pub loop-i-preserved : goal.loop-i-preserved
loop-i-preserved g c =
    let f = g.F.Field in
    let o = f.ops in
    let a = c.index-coeffs-coeffs.result in
    horner o g.met.F.Field.is_field.ring f.number c.args.coeffs.now c.loop-i.i (f.number c.args.x) _ _ a c.loop-i-test.true c.index-coeffs-coeffs.is
    c.loop-i.invariant (c.add-value.ensures ∙ ap (λ v. plus o v (f.number a)) c.mul.ensures)

pub returns : goal.returns
returns g c =
    let f = g.F.Field in
    value-all f.ops (map f.number c.args.coeffs.now) (f.number c.args.x) (f.number c.loop-i.value) (length c.args.coeffs.now - c.loop-i.i) c.loop-i.invariant
    (omega (arith, c.loop-i.auto.i-end, c.loop-i-test.false))
