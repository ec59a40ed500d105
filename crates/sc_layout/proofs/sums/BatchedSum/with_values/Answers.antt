use Rattle.std.proofs.Common.{◌++◌, map, take, append-nil, take_all, sym, subst, arith}
use Rattle.sc_layout.specs.Sums.{IsBatchOf}
use Rattle.sc_layout.proofs.SumLaws.{values-more}
use Rattle.sc_layout.proofs.sums.BatchedSum.with_values.Goals as goal

pub loop-value-init : goal.loop-value-init
loop-value-init g c a xs before =
    let e = g.EF.Field in
    subst (λ ys. IsBatchOf e.ops e.number a ys c.args.self) (sym (append-nil xs)) before

pub loop-value-preserved : goal.loop-value-preserved
loop-value-preserved g c a xs before =
    let e = g.EF.Field in
    let i = c.loop-value.value-index in
    let so_far = xs ++ map e.number (take i c.args.values.now) in
    subst (λ ys. IsBatchOf e.ops e.number a ys c.with-batch.result)
    (sym (values-more e.number c.args.values.now xs i c.value-item.result c.loop-value-test.true c.value-item.is))
    (c.with-batch.ensures a so_far (c.loop-value.invariant a xs before))

pub returns : goal.returns
returns g c a xs before =
    let e = g.EF.Field in
    subst (λ vs. IsBatchOf e.ops e.number a (xs ++ map e.number vs) c.loop-value.batch)
    (take_all c.loop-value.value-index c.args.values.now (omega (arith, c.loop-value-test.false))) (c.loop-value.invariant a xs before)
