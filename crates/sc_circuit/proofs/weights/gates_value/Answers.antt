use Rattle.std.proofs.Common.{◌≡◌, ◌<◌, ◌≤◌, ℕ, true, false, length, get_or, if◌then◌else◌, ◌∙◌, ap, arith}
use Rattle.sc_definitions.specs.Ring.{plus}
use Rattle.sc_definitions.specs.Tables.{entries}
use Rattle.sc_definitions.proofs.LoopLaws.{entry-read}
use Rattle.sc_circuit_definitions.specs.declared.gate.Gate.{Gate}
use Rattle.sc_circuit_definitions.specs.Circuits.{is_same_kind}
use Rattle.sc_circuit.specs.Weights.{PlaceWeights, placed_share, gates_sum}
use Rattle.sc_circuit.proofs.WeightLaws.{kind-none, kind-more, kind-all}
use Rattle.sc_circuit.proofs.weights.gates_value.Goals as goal

pub loop-index-init : goal.loop-index-init
loop-index-init g c =
    let e = g.EF.Field in
    let ring = g.met.EF.Field.is_field.ring in
    let w : ℕ → ℕ = entries e.number c.args.weights.now in
    let p : PlaceWeights = record { first = entries e.number c.args.first.now; second = entries e.number c.args.second.now } in
    record {
      sums = kind-none e.ops ring false w p c.args.gates.now (e.number c.ZERO-sums.result) (ap e.number c.ZERO-sums.ensures ∙ g.met.EF.Field.zero_is);
      products = kind-none e.ops ring true w p c.args.gates.now (e.number c.ZERO-products.result) (ap e.number c.ZERO-products.ensures ∙ g.met.EF.Field.zero_is);
    }

pub loop-index-preserved : goal.loop-index-preserved
loop-index-preserved g c =
    let e = g.EF.Field in
    let N = e.number in
    let ring = g.met.EF.Field.is_field.ring in
    let i = c.loop-index.index in
    let gates = c.args.gates.now in
    let d : Gate = record { product = false; left = 0; right = 0 } in
    let gate = get_or gates i d in
    let inside : i < length gates = c.loop-index-test.true in
    let w : ℕ → ℕ = entries N c.args.weights.now in
    let p : PlaceWeights = record { first = entries N c.args.first.now; second = entries N c.args.second.now } in
    let reads_w = entry-read N c.args.weights.now i c.index-weights-index.result (omega (arith, inside, c.requires.weights)) c.index-weights-index.is in
    let reads_f = entry-read N c.args.first.now gate.left c.index-first-gate.result (c.requires.left i d inside) c.index-first-gate.is in
    let reads_s = entry-read N c.args.second.now gate.right c.index-second-gate.result (c.requires.right i d inside) c.index-second-gate.is in
    let share : N c.mul-share.result ≡ placed_share e.ops p (w i) gate = cc (c.mul-share.ensures, c.mul.ensures, reads_w, reads_f, reads_s) in
    record {
      sums = kind-more e.ops ring false w p gates i d (N c.loop-index.sums) (N c.add-sums.result) inside c.loop-index.invariant.sums
          (c.add-sums.ensures ∙ ap (plus e.ops (N c.loop-index.sums)) (c.share_of.ensures ∙ ap (λ n. if is_same_kind gate.product false then n else 0) share));
      products = kind-more e.ops ring true w p gates i d (N c.loop-index.products) (N c.add-products.result) inside c.loop-index.invariant.products
          (c.add-products.ensures ∙ ap (plus e.ops (N c.loop-index.products)) (c.share_of-in-loop-index.ensures ∙ ap (λ n. if is_same_kind gate.product true then n else 0) share));
    }

pub returns : goal.returns
unfolding gates_sum
returns g c =
    let e = g.EF.Field in
    let N = e.number in
    let ring = g.met.EF.Field.is_field.ring in
    let gates = c.args.gates.now in
    let w : ℕ → ℕ = entries N c.args.weights.now in
    let p : PlaceWeights = record { first = entries N c.args.first.now; second = entries N c.args.second.now } in
    let past : length gates ≤ c.loop-index.index = omega (arith, c.loop-index-test.false) in
    let sums = kind-all e.ops ring false w p gates c.loop-index.index (N c.loop-index.sums) past (g.met.EF.Field.number_below c.loop-index.sums) c.loop-index.invariant.sums in
    let products = kind-all e.ops ring true w p gates c.loop-index.index (N c.loop-index.products) past (g.met.EF.Field.number_below c.loop-index.products) c.loop-index.invariant.products in
    cc (c.add-2.ensures, c.mul-2.ensures, c.add.ensures, c.mul-4.ensures, c.mul-3.ensures, sums, products)
