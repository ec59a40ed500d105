use Rattle.std.proofs.Common.{◌≡◌, ◌<◌, ◌+◌, ◌-◌, ◌∷◌, map, drop, length, sym, ◌∙◌, ap, subst, arith}
use Rattle.sc_definitions.specs.Tables.{rows_of}
use Rattle.sc_circuit_definitions.specs.Circuits.{PlacesBelow, top_width, gate_value, all_values}
use Rattle.sc_circuit.proofs.ShapeLaws.{images-next, places-in}
use Rattle.sc_circuit.proofs.EvaluationLaws.{some-rows, last-row, below-width, row-more, rows-turned}
use Rattle.sc_circuit.proofs.circuit.Circuit.evaluate.Goals as goal

pub overflow_sub-len : goal.overflow_sub-len
overflow_sub-len g c =
    let f = g.F.Field in
    let all = map (λ gates. gates.items) c.args.self.now.layers.items in
    let some = some-rows f.ops (map f.number) c.loop-layer.rows.items (drop c.loop-layer.layer all) (map f.number c.args.inputs.now) c.loop-layer.invariant.rows in
    omega (arith, some, c.len-in-loop-layer.ensures, c.loop-layer.rows.ok.0)

pub index-requires : goal.index-requires
index-requires g c =
    let f = g.F.Field in
    let all = map (λ gates. gates.items) c.args.self.now.layers.items in
    let some = some-rows f.ops (map f.number) c.loop-layer.rows.items (drop c.loop-layer.layer all) (map f.number c.args.inputs.now) c.loop-layer.invariant.rows in
    omega (arith, some, c.len-in-loop-layer.ensures, c.loop-layer.rows.ok.0)

pub values_over-requires : goal.values_over-requires
values_over-requires g c =
    let f = g.F.Field in
    let self = c.args.self.now in
    let all = map (λ gates. gates.items) self.layers.items in
    let n = c.loop-layer.layer in
    let i = n - 1 in
    let v = c.index-in-loop-layer.result.now in
    let row = c.index.result.now in
    let one : i + 1 ≡ n = omega (arith, c.loop-layer-test.true) in
    let inside : i < length self.layers.items = omega (arith, c.loop-layer-test.true, c.loop-layer.invariant.down) in
    let some = some-rows f.ops (map f.number) c.loop-layer.rows.items (drop n all) (map f.number c.args.inputs.now) c.loop-layer.invariant.rows in
    let next = images-next (λ gates. gates.items) self.layers.items i v inside c.index-in-loop-layer.ensures in
    let last : c.len-in-loop-layer.result - 1 + 1 ≡ length c.loop-layer.rows.items = omega (arith, some, c.len-in-loop-layer.ensures, c.loop-layer.rows.ok.0) in
    let are = last-row f.ops (map f.number) c.loop-layer.rows.items (drop n all) (map f.number c.args.inputs.now) (c.len-in-loop-layer.result - 1) row
    c.loop-layer.invariant.rows last c.index.ensures in
    let wide : length c.as_slice-below.result.now ≡ top_width (drop (i + 1) all) self.inputs =
    ap length c.as_slice-below.ensures ∙ below-width f.ops f.number row c.args.inputs.now (drop n all) self.inputs c.requires are
    ∙ ap (λ k. top_width (drop k all) self.inputs) (sym one) in
    subst (λ k. PlacesBelow k c.as_slice.result.now) (sym wide)
    (subst (PlacesBelow (top_width (drop (i + 1) all) self.inputs)) (sym c.as_slice.ensures.value) (places-in all self.inputs i v.items self.fits next))

pub loop-layer-preserved : goal.loop-layer-preserved
loop-layer-preserved g c =
    let f = g.F.Field in
    let self = c.args.self.now in
    let all = map (λ gates. gates.items) self.layers.items in
    let n = c.loop-layer.layer in
    let i = n - 1 in
    let v = c.index-in-loop-layer.result.now in
    let row = c.index.result.now in
    let inputs = map f.number c.args.inputs.now in
    let one : i + 1 ≡ n = omega (arith, c.loop-layer-test.true) in
    let inside : i < length self.layers.items = omega (arith, c.loop-layer-test.true, c.loop-layer.invariant.down) in
    let some = some-rows f.ops (map f.number) c.loop-layer.rows.items (drop n all) inputs c.loop-layer.invariant.rows in
    let next = images-next (λ gates. gates.items) self.layers.items i v inside c.index-in-loop-layer.ensures ∙ ap (λ k. v.items ∷ drop k all) one in
    let last : c.len-in-loop-layer.result - 1 + 1 ≡ length c.loop-layer.rows.items = omega (arith, some, c.len-in-loop-layer.ensures, c.loop-layer.rows.ok.0) in
    let are = last-row f.ops (map f.number) c.loop-layer.rows.items (drop n all) inputs (c.len-in-loop-layer.result - 1) row
    c.loop-layer.invariant.rows last c.index.ensures in
    record {
      down = omega (arith, c.loop-layer.invariant.down);
      rows = ap (map (map f.number)) c.in_ok-push-2.ensures.items
          ∙ row-more f.ops (map f.number) c.loop-layer.rows.items v.items (drop n all) (drop i all) inputs c.new-in-loop-layer.result c.loop-layer.invariant.rows next
          (ap (map f.number) c.new-in-loop-layer.ensures ∙ c.in_ok-values.ensures
          ∙ ap (λ gates. map (gate_value f.ops (rows_of (map f.number c.as_slice-below.result.now))) gates) c.as_slice.ensures.value
          ∙ ap (λ xs. map (gate_value f.ops (rows_of xs)) v.items) (ap (map f.number) c.as_slice-below.ensures ∙ are));
    }

pub returns : goal.returns
returns g c =
    let f = g.F.Field in
    let self = c.args.self.now in
    let all = map (λ gates. gates.items) self.layers.items in
    let end : c.loop-layer.layer ≡ 0 = omega (arith, c.loop-layer-test.false) in
    rows-turned (map f.number) c.loop-layer.rows.items c.reverse.new.self.items _ c.loop-layer.invariant.rows c.reverse.ensures.items
    ∙ ap (λ k. all_values f.ops (drop k all) (map f.number c.args.inputs.now)) end
