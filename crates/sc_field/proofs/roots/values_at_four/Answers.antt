use Rattle.std.proofs.Common.{ℕ, ◌-◌, length, map, sym, ap, ◌∙◌, arith}
use Rattle.std.proofs.lemmas.List.{length-map}
use Rattle.sc_definitions.specs.Ring.{plus}
use Rattle.sc_field.proofs.RootLaws.{horner, value-none, value-all}
use Rattle.sc_field.proofs.roots.values_at_four.Goals as goal

pub loop-i-init : goal.loop-i-init
loop-i-init g c =
    let f = g.F.Field in
    let cs = c.args.coeffs.now in
    let none = λ (x : ℕ). sym (value-none f.ops (length cs - 0) (map f.number cs) x (length-map _ _ ∙ omega arith)) in
    record {
      first = ap f.number c.ZERO-a.ensures ∙ g.met.F.Field.zero_is ∙ none _;
      second = ap f.number c.ZERO-b.ensures ∙ g.met.F.Field.zero_is ∙ none _;
      third = ap f.number c.ZERO-c.ensures ∙ g.met.F.Field.zero_is ∙ none _;
      fourth = ap f.number c.ZERO-d.ensures ∙ g.met.F.Field.zero_is ∙ none _;
    }

-- one coefficient more, before the others
pub loop-i-preserved : goal.loop-i-preserved
loop-i-preserved g c =
    let f = g.F.Field in
    let a = c.index-coeffs-coeffs.result in
    let step = λ (x before after : ℕ). horner f.ops g.met.F.Field.is_field.ring f.number c.args.coeffs.now c.loop-i.i x before after a c.loop-i-test.true c.index-coeffs-coeffs.is in
    let inv = c.loop-i.invariant in
    record {
      first = step _ _ _ inv.first (c.add-a.ensures ∙ ap (λ v. plus f.ops v (f.number a)) c.mul.ensures);
      second = step _ _ _ inv.second (c.add-b.ensures ∙ ap (λ v. plus f.ops v (f.number a)) c.mul-in-loop-i.ensures);
      third = step _ _ _ inv.third (c.add-c.ensures ∙ ap (λ v. plus f.ops v (f.number a)) c.mul-in-loop-i-2.ensures);
      fourth = step _ _ _ inv.fourth (c.add-d.ensures ∙ ap (λ v. plus f.ops v (f.number a)) c.mul-in-loop-i-3.ensures);
    }

pub returns-clause-first : goal.returns-clause-first
returns-clause-first g c =
    let f = g.F.Field in
    value-all f.ops (map f.number c.args.coeffs.now) (f.number c.args.xs.0) (f.number c.loop-i.a) (length c.args.coeffs.now - c.loop-i.i) c.loop-i.invariant.first
    (omega (arith, c.loop-i.auto.i-end, c.loop-i-test.false))

pub returns-clause-second : goal.returns-clause-second
returns-clause-second g c =
    let f = g.F.Field in
    value-all f.ops (map f.number c.args.coeffs.now) (f.number c.args.xs.1) (f.number c.loop-i.b) (length c.args.coeffs.now - c.loop-i.i) c.loop-i.invariant.second
    (omega (arith, c.loop-i.auto.i-end, c.loop-i-test.false))

pub returns-clause-third : goal.returns-clause-third
returns-clause-third g c =
    let f = g.F.Field in
    value-all f.ops (map f.number c.args.coeffs.now) (f.number c.args.xs.2) (f.number c.loop-i.c) (length c.args.coeffs.now - c.loop-i.i) c.loop-i.invariant.third
    (omega (arith, c.loop-i.auto.i-end, c.loop-i-test.false))

pub returns-clause-fourth : goal.returns-clause-fourth
returns-clause-fourth g c =
    let f = g.F.Field in
    value-all f.ops (map f.number c.args.coeffs.now) (f.number c.args.xs.3) (f.number c.loop-i.d) (length c.args.coeffs.now - c.loop-i.i) c.loop-i.invariant.fourth
    (omega (arith, c.loop-i.auto.i-end, c.loop-i-test.false))
