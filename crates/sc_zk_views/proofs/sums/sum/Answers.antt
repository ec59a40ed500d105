use Rattle.std.proofs.Common.{◌≡◌, ◌+◌, ◌-◌, ◌<◌, length, ◌∙◌, ap, map, drop, arith}
use Rattle.sc_zk_definitions.specs.Masks.{sum_of}
use Rattle.sc_zk_rounds.proofs.TargetLaws.{sum-none, sum-more}
use Rattle.sc_zk_views.proofs.sums.sum.Goals as goal

pub loop-left-init : goal.loop-left-init
loop-left-init g c =
    let e = g.EF.Field in
    record {
      within = omega arith;
      so_far = sum-none e.number e.ops c.args.values.now (e.number c.ZERO-sum.result) (ap e.number c.ZERO-sum.ensures ∙ g.met.EF.Field.zero_is);
    }

pub loop-left-preserved : goal.loop-left-preserved
loop-left-preserved g c =
    let e = g.EF.Field in
    let values = c.args.values.now in
    let i = c.loop-left.left - 1 in
    let inside : i < length values = omega (arith, c.loop-left-test.true, c.loop-left.invariant.within) in
    let next : c.loop-left.left ≡ i + 1 = omega (arith, c.loop-left-test.true) in
    record {
      within = omega (arith, c.loop-left.invariant.within);
      so_far = sum-more e.number e.ops values i c.index-values-left.result (e.number c.loop-left.sum) (e.number c.add-sum.result) inside c.index-values-left.is
          (c.loop-left.invariant.so_far ∙ ap (λ n. sum_of e.ops (map e.number (drop n values))) next) c.add-sum.ensures;
    }
