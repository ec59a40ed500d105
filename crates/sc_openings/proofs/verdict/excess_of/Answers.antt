use Rattle.std.proofs.Common.{◌+◌, length, map, ◌∙◌, ap, arith, length-append}
use Rattle.sc_merge_definitions.proofs.PlaceLaws.{minus-next, minus-end}
use Rattle.sc_openings.proofs.verdict.excess_of.Goals as goal

-- one value more
pub loop-i-preserved : goal.loop-i-preserved
loop-i-preserved g c =
    let N = g.EF.Field.number in
    let inv = c.loop-i.invariant in
    record {
      made = ap length c.push_reserved.ensures.items ∙ length-append c.loop-i.excess.items _ ∙ ap (λ n. n + 1) inv.made;
      room = omega (arith, c.push_reserved.ensures.capacity, inv.room);
      excess = minus-next N c.loop-i.i c.args.claimed.now c.args.truths.now c.loop-i-test.true (omega (arith, c.loop-i-test.true, c.requires)) c.index-claimed-i.is c.index-truths-i.is
          g.EF.Field.ops N c.loop-i.excess.items c.push_reserved.ensures.items c.sub.ensures inv.excess;
    }

pub returns : goal.returns
returns g c =
    let N = g.EF.Field.number in
    minus-end N c.loop-i.i c.args.claimed.now c.args.truths.now (omega (arith, c.loop-i-test.false)) g.EF.Field.ops (map N c.loop-i.excess.items) c.loop-i.invariant.excess
