use Rattle.std.proofs.Common.{◌≡◌, ◌+◌, ◌-◌, ◌<◌, length, map, drop, ◌∙◌, ap, arith}
use Rattle.sc_commitments.specs.Matrices.{lists_in}
use Rattle.sc_zk_definitions.specs.Masks.{sum_of, endpoint}
use Rattle.sc_zk_rounds.proofs.MixingLaws.{ends-none, ends-more}
use Rattle.sc_zk_rounds.proofs.mixing.all_endpoints.Goals as goal

pub loop-left-init : goal.loop-left-init
loop-left-init g c =
    let e = g.EF.Field in
    record {
      within = omega arith;
      so_far = ends-none e.number e.ops c.args.masks.now (e.number c.ZERO-sum.result) (ap e.number c.ZERO-sum.ensures ∙ g.met.EF.Field.zero_is);
    }

pub loop-left-preserved : goal.loop-left-preserved
loop-left-preserved g c =
    let e = g.EF.Field in
    let masks = c.args.masks.now in
    let i = c.loop-left.left - 1 in
    let inside : i < length masks = omega (arith, c.loop-left-test.true, c.loop-left.invariant.within) in
    let next : c.loop-left.left ≡ i + 1 = omega (arith, c.loop-left-test.true) in
    record {
      within = omega (arith, c.loop-left.invariant.within);
      so_far = ends-more e.number e.ops masks i c.index-masks-left.result (e.number c.loop-left.sum) (e.number c.add-sum.result) (e.number c.endpoint_of.result) inside
          c.index-masks-left.is (c.loop-left.invariant.so_far ∙ ap (λ n. sum_of e.ops (map (endpoint e.ops) (lists_in e.number (drop n masks)))) next)
          (c.endpoint_of.ensures ∙ ap (λ l. endpoint e.ops (map e.number l)) c.deref.ensures.value) c.add-sum.ensures;
    }
