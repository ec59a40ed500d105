use Rattle.std.proofs.Common.{◌++◌, map, drop, sym, ap, ◌∙◌, arith}
use Rattle.std.proofs.lemmas.List.{append-nil, length-map}
use Rattle.sc_definitions.specs.Ring.{minus}
use Rattle.sc_definitions.specs.Polynomials.{poly_minus}
use Rattle.sc_degree.proofs.CoefficientLaws.{pushed, difference-next, difference-last}
use Rattle.sc_circuit.proofs.turn.difference.Goals as goal

pub loop-i-init : goal.loop-i-init
loop-i-init g c =
    let e = g.EF.Field in
    let got = c.in_ok-less.ensures in
    record {
      made = ap (λ l. map e.number l ++ poly_minus e.ops (map e.number c.args.coeffs.now) (map e.number c.args.others.now)) got.items;
      len = got.len;
      room = omega (arith, got.capacity);
    }

pub push_reserved-requires : goal.push_reserved-requires
push_reserved-requires g c =
    let inv = c.loop-i.invariant in
    omega (arith, inv.len, inv.room, c.loop-i-test.true)

-- one coefficient more
pub loop-i-preserved : goal.loop-i-preserved
loop-i-preserved g c =
    let e = g.EF.Field in
    let inv = c.loop-i.invariant in
    let x = c.index-coeffs-i.result in
    let y = c.index-others-i.result in
    let put = c.push_reserved.ensures in
    record {
      made = pushed e.number c.loop-i.less.items c.push_reserved.new.self.items c.sub.result (minus e.ops (e.number x) (e.number y)) _ _ put.items c.sub.ensures
          (ap (λ l. map e.number c.loop-i.less.items ++ l)
          (sym (difference-next e.ops e.number c.args.coeffs.now c.args.others.now c.loop-i.i x y c.loop-i-test.true c.index-coeffs-i.is (omega (arith, c.loop-i-test.true, c.requires)) c.index-others-i.is))
          ∙ inv.made);
      len = omega (arith, put.len, inv.len);
      room = omega (arith, put.capacity, inv.room);
    }

pub returns : goal.returns
returns g c =
    let e = g.EF.Field in
    let inv = c.loop-i.invariant in
    let cs = map e.number c.args.coeffs.now in
    sym (append-nil _)
    ∙ ap (λ l. map e.number c.loop-i.less.items ++ l)
    (sym (difference-last e.ops cs (drop c.loop-i.i (map e.number c.args.others.now)) c.loop-i.i (omega (arith, c.loop-i-test.false, length-map c.args.coeffs.now e.number))))
    ∙ inv.made
