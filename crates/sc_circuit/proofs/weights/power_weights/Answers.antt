use Rattle.std.proofs.Common.{length, sym, ◌∙◌, ap, arith}
use Rattle.sc_circuit.proofs.WeightLaws.{powers-none, powers-more, power-next}
use Rattle.sc_circuit.proofs.weights.power_weights.Goals as goal

pub loop-gate-init : goal.loop-gate-init
loop-gate-init g c =
    let e = g.EF.Field in
    record {
      len = ap length c.in_ok-weights.ensures.empty;
      powers = λ i low. absurd (omega (arith, low));
      next = ap e.number c.ONE-power.ensures ∙ g.met.EF.Field.one_is ∙ sym (powers-none e.ops (e.number c.args.challenge));
    }

pub loop-gate-preserved : goal.loop-gate-preserved
loop-gate-preserved g c =
    let e = g.EF.Field in
    let inv = c.loop-gate.invariant in
    record {
      len = omega (arith, inv.len, c.push.new.self.ok.0, c.loop-gate.weights.ok.0, c.in_ok-push.ensures.len);
      powers = powers-more e.ops e.number (e.number c.args.challenge) c.loop-gate.weights.items c.push.new.self.items c.loop-gate.power c.loop-gate._gate inv.len inv.powers inv.next c.in_ok-push.ensures.items;
      next = c.mul-power.ensures ∙ power-next e.ops (e.number c.args.challenge) (e.number c.loop-gate.power) c.loop-gate._gate inv.next;
    }
