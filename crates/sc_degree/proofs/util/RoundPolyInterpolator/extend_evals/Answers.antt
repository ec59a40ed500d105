use Rattle.std.proofs.Common.{◌≡◌, [], ◌∷◌, ◌++◌, length, map, sym, ◌∙◌, ap, arith}
use Rattle.std.proofs.lemmas.List.{length-map, map-append, take_all}
use Rattle.sc_definitions.specs.Interpolation.{next_through}
use Rattle.sc_degree.specs.Nodes.{extended}
use Rattle.sc_degree.proofs.LagrangeLaws.{extended-none, extended-more}
use Rattle.sc_degree.proofs.util.RoundPolyInterpolator.extend_evals.Goals as goal

pub loop-index-init : goal.loop-index-init
loop-index-init g c =
    let e = g.EF.Field in
    let evals = c.args.evals.now in
    let all : c.loop-value.value-index ≡ length evals = omega (arith, c.loop-value-test.false, c.loop-value.auto.value-index-end) in
    record {
      so_far = ap (map e.number) (c.loop-value.invariant.so_far ∙ take_all c.loop-value.value-index evals (omega (arith, all)))
          ∙ sym (extended-none e.ops (e.number c.args.sum_constraint) (map e.number evals) (length evals) (sym (length-map evals e.number)));
      size = c.loop-value.invariant.size ∙ all;
      room = c.loop-value.invariant.room;
    }

pub loop-index-preserved : goal.loop-index-preserved
loop-index-preserved g c =
    let e = g.EF.Field in
    let claim = e.number c.args.sum_constraint in
    let values = map e.number c.args.evals.now in
    let index = c.loop-index.index in
    let so_far = c.loop-index.invariant.so_far in
    let new = c.eval.result in
    let pushed = c.push_reserved-in-loop-index.ensures in
    record {
      so_far = ap (map e.number) pushed.items
          ∙ map-append e.number c.loop-index.values.items (new ∷ [])
          ∙ ap (λ l. l ++ e.number new ∷ []) so_far
          ∙ ap (λ v. extended e.ops claim values index ++ v ∷ []) (c.eval.ensures ∙ ap (next_through e.ops claim values) c.interpolation_node-node.ensures)
          ∙ sym (extended-more e.ops claim values index (omega (arith, length-map c.args.evals.now e.number, c.loop-index.auto.index)));
      size = omega (arith, pushed.len, c.loop-index.invariant.size);
      room = omega (arith, pushed.capacity, c.loop-index.invariant.room);
    }
