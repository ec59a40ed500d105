use Rattle.std.proofs.Common.{◌≡◌, ◌-◌, ◌/◌, ◌^◌, ◌∙◌, ap, sym, subst, arith}
use Rattle.sc_definitions.specs.Ring.{times}
use Rattle.sc_table.specs.Polys.{variables_of, table_of}
use Rattle.sc_table.specs.Strategy.{order_of}
use Rattle.sc_table.proofs.EntryLaws.{entry-read}
use Rattle.sc_table.proofs.SliceLaws.{HasPushed, pushed-none, pushed-more}
use Rattle.sc_partials.specs.NextPartials.{half_row}
use Rattle.sc_partials.proofs.NextTables.{half-count, pushed-has}
use Rattle.sc_partials.proofs.next_partials.half_of.Goals as goal

pub loop-a-init : goal.loop-a-init
loop-a-init g c = record { pushed = pushed-none g.EF.Field.number _ c.in_ok-rows.rows.items c.in_ok-rows.ensures.items; room = c.in_ok-rows.ensures.exact }

pub half_row-row-requires-clause-few : goal.half_row-row-requires-clause-few
half_row-row-requires-clause-few g c = omega (arith, c.num_evals-half.ensures, c.args.table.now.sized, c.args.table.now.evals.ok.0, c.args.table.now.evals.small)

pub loop-a-preserved : goal.loop-a-preserved
loop-a-preserved g c =
    let e = g.EF.Field in
    let t = c.args.table.now in
    let m = variables_of t - 1 in
    let half : c.num_evals-half.result / 2 ≡ 2 ^ m = half-count (variables_of t) c.num_evals-half.result c.requires c.num_evals-half.ensures in
    let row = c.half_row-row.result in
    let there : row ≡ half_row (order_of c.args.order) c.args.at_one m c.loop-a.a = c.half_row-row.ensures.row m half in
    let read = entry-read e.number c.as_slice.result.now row c.index-as_slice-row.result
    (omega (arith, c.half_row-row.ensures.below, c.num_evals-half.ensures, c.as_slice.ensures.size)) c.index-as_slice-row.is in
    record {
      pushed = pushed-more e.number _ c.loop-a.a c.loop-a.rows.items _ c.mul.result c.push_reserved.ensures.items c.loop-a.invariant.pushed
          (c.mul.ensures ∙ ap (times e.ops (e.number c.args.factor)) (sym read ∙ ap (λ f. f row) c.as_slice.ensures.numbers ∙ ap (table_of e.number t) there));
      room = c.push_reserved.ensures.capacity ∙ c.loop-a.invariant.room;
    }

pub new-requires : goal.new-requires
new-requires g c =
    let n = variables_of c.args.table.now in
    (n - 1, c.loop-a.invariant.pushed.size ∙ omega (arith, c.loop-a-test.false, c.loop-a.auto.a-end) ∙ half-count n c.num_evals-half.result c.requires c.num_evals-half.ensures)

pub returns : goal.returns
returns g c = λ m is.
    let e = g.EF.Field in
    let t = c.args.table.now in
    let n = variables_of t in
    let same : n - 1 ≡ m = omega (arith, is) in
    let count : c.loop-a.a ≡ 2 ^ (n - 1) = omega (arith, c.loop-a-test.false, c.loop-a.auto.a-end, half-count n c.num_evals-half.result c.requires c.num_evals-half.ensures) in
    let pushed = subst (λ k. HasPushed e.number (λ a. times e.ops (e.number c.args.factor) (table_of e.number t (half_row (order_of c.args.order) c.args.at_one k a))) c.loop-a.a c.loop-a.rows.items)
    same c.loop-a.invariant.pushed in
    pushed-has e.number m _ c.loop-a.a c.loop-a.rows.items c.new.result pushed (count ∙ ap (λ k. 2 ^ k) same) c.new.ensures.size c.new.ensures.table
