use Rattle.std.proofs.Common.{◌+◌, length, ◌∙◌, ap, arith, length-append}
use Rattle.sc_openings.proofs.ValueLaws.{made-next}
use Rattle.sc_openings.proofs.weights.embedded.Goals as goal

-- one image more
pub loop-x-preserved : goal.loop-x-preserved
loop-x-preserved g c =
    let image = λ (x : g.row.F.Denot). g.EF.Algebra.embedding (g.F.Field.number x) in
    let inv = c.loop-x.invariant in
    record {
      made = ap length c.push_reserved.ensures.items ∙ length-append c.loop-x.images.items _ ∙ ap (λ n. n + 1) inv.made;
      room = omega (arith, c.push_reserved.ensures.capacity, inv.room);
      images = made-next g.EF.Field.number image c.args.table.now c.loop-x.x-index c.x-item.result c.loop-x.images.items c.push_reserved.new.self.items c.embed.result c.loop-x-test.true
          c.x-item.is inv.images c.embed.ensures c.push_reserved.ensures.items;
    }
