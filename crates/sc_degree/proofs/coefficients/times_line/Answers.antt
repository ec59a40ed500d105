use Rattle.std.proofs.Common.{◌++◌, [], map, refl, sym, ap, ◌∙◌, arith}
use Rattle.std.proofs.lemmas.List.{append-nil, length-map}
use Rattle.sc_definitions.specs.Ring.{times, minus}
use Rattle.sc_degree.specs.Coefficients.{times_line}
use Rattle.sc_degree.proofs.CoefficientLaws.{pushed, line-next, line-last}
use Rattle.sc_degree.proofs.coefficients.times_line.Goals as goal

pub loop-i-init : goal.loop-i-init
loop-i-init g c =
    let e = g.EF.Field in
    let cs = map e.number c.args.coeffs.now in
    let got = c.in_ok-product.ensures in
    record {
      made = ap (λ l. map e.number l ++ times_line e.ops (e.number c.args.at) (e.number c.ZERO-before.result) cs) got.items
          ∙ ap (λ b. times_line e.ops (e.number c.args.at) b cs) (ap e.number c.ZERO-before.ensures ∙ g.met.EF.Field.zero_is);
      len = got.len;
      room = omega (arith, got.capacity);
    }

pub push_reserved-requires : goal.push_reserved-requires
push_reserved-requires g c =
    let inv = c.loop-i.invariant in
    omega (arith, inv.len, inv.room, c.loop-i-test.true)

-- one coefficient more
pub loop-i-preserved : goal.loop-i-preserved
loop-i-preserved g c =
    let e = g.EF.Field in
    let inv = c.loop-i.invariant in
    let cs = map e.number c.args.coeffs.now in
    let at = e.number c.args.at in
    let b = e.number c.loop-i.before in
    let x = c.index-coeffs-i.result in
    let put = c.push_reserved.ensures in
    record {
      made = pushed e.number c.loop-i.product.items c.push_reserved.new.self.items c.sub.result (minus e.ops b (times e.ops at (e.number x))) _ _ put.items
          (c.sub.ensures ∙ ap (minus e.ops b) c.mul.ensures)
          (ap (λ l. map e.number c.loop-i.product.items ++ l) (sym (line-next e.ops e.number at b c.args.coeffs.now c.loop-i.i x c.loop-i-test.true c.index-coeffs-i.is)) ∙ inv.made);
      len = omega (arith, put.len, inv.len);
      room = omega (arith, put.capacity, inv.room);
    }

pub push_reserved-requires-2 : goal.push_reserved-requires-2
push_reserved-requires-2 g c =
    let inv = c.loop-i.invariant in
    omega (arith, inv.len, inv.room, c.loop-i-test.false, c.loop-i.auto.i-end)

pub returns : goal.returns
returns g c =
    let e = g.EF.Field in
    let inv = c.loop-i.invariant in
    let cs = map e.number c.args.coeffs.now in
    let at = e.number c.args.at in
    let b = e.number c.loop-i.before in
    sym (append-nil _)
    ∙ pushed e.number c.loop-i.product.items c.push_reserved-2.new.self.items c.loop-i.before b [] _ c.push_reserved-2.ensures.items refl
    (ap (λ l. map e.number c.loop-i.product.items ++ l) (sym (line-last e.ops at b cs c.loop-i.i (omega (arith, c.loop-i-test.false, length-map c.args.coeffs.now e.number)))) ∙ inv.made)
