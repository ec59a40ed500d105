use Rattle.std.proofs.Common.{◌∙◌, ap, sym, arith}
use Rattle.sc_definitions.specs.Ring.{minus}
use Rattle.sc_table.proofs.EntryLaws.{entry-read}
use Rattle.sc_partials.proofs.StagedLaws.{differences-none, differences-more}
use Rattle.sc_partials.proofs.staged.push_differences.Goals as goal

pub loop-k-init : goal.loop-k-init
loop-k-init g c = differences-none g.EF.Field.number g.EF.Field.ops c.args.low.now c.args.high.now c.args.values.now.items

pub loop-k-preserved : goal.loop-k-preserved
loop-k-preserved g c =
    let e = g.EF.Field in
    let k = c.loop-k.k in
    let low = entry-read e.number c.args.low.now k c.index-low-k.result c.loop-k-test.true c.index-low-k.is in
    let high = entry-read e.number c.args.high.now k c.index-high-k.result (omega (arith, c.loop-k-test.true, c.requires)) c.index-high-k.is in
    differences-more e.number e.ops c.args.low.now c.args.high.now c.args.values.now.items k c.loop-k.values.items _ _ c.in_ok-push.ensures.items c.loop-k.invariant
    (c.sub.ensures ∙ ap (λ x. minus e.ops x (e.number c.index-low-k.result)) (sym high) ∙ ap (minus e.ops _) (sym low))
