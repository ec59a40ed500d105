use Rattle.std.proofs.Common.{◌≡◌, ◌+◌, ◌<◌, length, sym, ◌∙◌, ap, subst, arith}
use Rattle.sc_definitions.proofs.LoopLaws.{entry-read}
use Rattle.sc_definitions.specs.Ring.{times, minus}
use Rattle.sc_table.proofs.WeightLaws.{IsSplitSoFar, split-more}
use Rattle.sc_table.proofs.poly.push_weighted.Goals as goal

pub loop-b-preserved : goal.loop-b-preserved
loop-b-preserved g c =
    let a = g.A.Field in
    let old = c.args.weights.now.items in
    let new = c.loop-b.weights.items in
    let z = a.number c.args.z in
    let i = c.loop-b.b in
    let so_far = c.loop-b.invariant.0 in
    let half_is : c.len-half.result ≡ length old = c.len-half.ensures ∙ c.args.weights.now.ok.0 in
    let low : i < length old = omega (arith, c.loop-b-test.true, half_is) in
    let within : i < length new = omega (arith, so_far.size, low) in
    let first = entry-read a.number new i c.index.result.now within c.index.ensures in
    let second = entry-read a.number new i c.index-in-loop-b.result.now within c.index-in-loop-b.ensures in (
      subst (λ l. IsSplitSoFar a.number a.ops z (i + 1) old l) (sym c.push_reserved.ensures.items)
          (split-more a.number a.ops z old i new c.sub.result c.mul-high.result low so_far
          (c.mul-high.ensures ∙ ap (λ k. times a.ops k z) (sym first))
          (c.sub.ensures ∙ ap (λ k. minus a.ops k (a.number c.mul-high.result)) (sym second))),
      c.push_reserved.ensures.capacity ∙ c.loop-b.invariant.1,
    )
