use Rattle.std.proofs.Common.{◌≡◌, ◌<◌, ◌==◌, ℕ, false, length, get_or, if◌then◌else◌, refl, sym, ◌∙◌, ap, arith}
use Rattle.sc_definitions.specs.Ring.{plus, times}
use Rattle.sc_definitions.specs.Tables.{entries}
use Rattle.sc_definitions.proofs.LoopLaws.{entry-read}
use Rattle.sc_field.proofs.EntryLaws.{entry-below}
use Rattle.sc_circuit_definitions.specs.declared.gate.Gate.{Gate}
use Rattle.sc_circuit.specs.Phases.{given_factor, given_rest, second_factor_share, second_rest_share}
use Rattle.sc_circuit.proofs.ShareLaws.{walked-none, walked-more, walked-all}
use Rattle.sc_circuit.proofs.walk.add_second_shares.Goals as goal

pub loop-index-init : goal.loop-index-init
loop-index-init g c =
    let e = g.EF.Field in
    let ring = g.met.EF.Field.is_field.ring in
    let n = length c.args.factors.now in
    record {
      factors = walked-none e.ops ring (λ gate. gate.right) (second_factor_share e.ops (entries e.number c.args.weights.now) (entries e.number c.args.points.now) (e.number c.args.value)) c.args.gates.now n (entries e.number c.args.factors.now);
      rests = walked-none e.ops ring (λ gate. gate.right) (second_rest_share e.ops (entries e.number c.args.weights.now) (entries e.number c.args.points.now) (e.number c.args.value)) c.args.gates.now n (entries e.number c.args.rests.now);
    }

pub loop-index-preserved : goal.loop-index-preserved
loop-index-preserved g c =
    let e = g.EF.Field in
    let ring = g.met.EF.Field.is_field.ring in
    let i = c.loop-index.index in
    let gates = c.args.gates.now in
    let n = length c.args.factors.now in
    let d : Gate = record { product = false; left = 0; right = 0 } in
    let gate = get_or gates i d in
    let inside : i < length gates = c.loop-index-test.true in
    let w = entry-read e.number c.args.weights.now i c.index-weights-index.result (omega (arith, inside, c.requires.weights)) c.index-weights-index.is in
    let p = entry-read e.number c.args.points.now gate.left c.index-points-gate.result (c.requires.left i d inside) c.index-points-gate.is in
    let W = times e.ops (entries e.number c.args.weights.now i) (entries e.number c.args.points.now gate.left) in
    let V = e.number c.args.value in
    let weighs : e.number c.mul-weight.result ≡ W =
    c.mul-weight.ensures ∙ ap (λ a. times e.ops a (e.number c.index-points-gate.result)) (sym w) ∙ ap (times e.ops (entries e.number c.args.weights.now i)) (sym p) in
    let values : V ≡ V = refl in
    let f : ℕ → ℕ = entries e.number c.loop-index.factors in
    let r : ℕ → ℕ = entries e.number c.loop-index.rests in
    record {
      factors = walked-more e.ops ring (λ gate. gate.right) (second_factor_share e.ops (entries e.number c.args.weights.now) (entries e.number c.args.points.now) (e.number c.args.value)) gates n i d
          (entries e.number c.args.factors.now) f (entries e.number c.add_share.new.factors) inside c.loop-index.invariant.factors
          (λ x low. c.add_share.ensures.factors x
          ∙ ap (λ a. plus e.ops (f x) (if x == gate.right then given_factor e.ops gate.product a (V) else 0)) weighs
          ∙ ap (λ a. plus e.ops (f x) (if x == gate.right then given_factor e.ops gate.product W a else 0)) values);
      rests = walked-more e.ops ring (λ gate. gate.right) (second_rest_share e.ops (entries e.number c.args.weights.now) (entries e.number c.args.points.now) (e.number c.args.value)) gates n i d
          (entries e.number c.args.rests.now) r (entries e.number c.add_share.new.rests) inside c.loop-index.invariant.rests
          (λ x low. c.add_share.ensures.rests x
          ∙ ap (λ a. plus e.ops (r x) (if x == gate.right then given_rest e.ops gate.product a (V) else 0)) weighs
          ∙ ap (λ a. plus e.ops (r x) (if x == gate.right then given_rest e.ops gate.product W a else 0)) values);
    }

pub returns-clause-factors : goal.returns-clause-factors
returns-clause-factors g c =
    let e = g.EF.Field in
    let ring = g.met.EF.Field.is_field.ring in
    walked-all e.ops ring (λ gate. gate.right) (second_factor_share e.ops (entries e.number c.args.weights.now) (entries e.number c.args.points.now) (e.number c.args.value)) c.args.gates.now (length c.args.factors.now)
    c.loop-index.index (entries e.number c.args.factors.now) (entries e.number c.loop-index.factors) (omega (arith, c.loop-index-test.false))
    (entry-below e.ops e.number ring g.met.EF.Field.number_below c.loop-index.factors) c.loop-index.invariant.factors

pub returns-clause-rests : goal.returns-clause-rests
returns-clause-rests g c =
    let e = g.EF.Field in
    let ring = g.met.EF.Field.is_field.ring in
    walked-all e.ops ring (λ gate. gate.right) (second_rest_share e.ops (entries e.number c.args.weights.now) (entries e.number c.args.points.now) (e.number c.args.value)) c.args.gates.now (length c.args.factors.now)
    c.loop-index.index (entries e.number c.args.rests.now) (entries e.number c.loop-index.rests) (omega (arith, c.loop-index-test.false))
    (entry-below e.ops e.number ring g.met.EF.Field.number_below c.loop-index.rests) c.loop-index.invariant.rests
