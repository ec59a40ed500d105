use Rattle.std.proofs.Common.{map, arith}
use Rattle.sc_zk_rounds.proofs.AssemblyLaws.{scaled-none, scaled-push}
use Rattle.sc_zk_views.proofs.sums.push_scaled.Goals as goal

pub loop-value-init : goal.loop-value-init
loop-value-init g c = scaled-none g.EF.Field.ops (g.EF.Field.number c.args.factor) (map g.EF.Field.number c.args.list.now.items)

-- one value more
pub loop-value-preserved : goal.loop-value-preserved
loop-value-preserved g c =
    scaled-push g.EF.Field.ops g.EF.Field.number (g.EF.Field.number c.args.factor) c.args.list.now.items c.loop-value.list.items _ c.args.values.now c.loop-value.value-index
    c.value-item.result c.mul.result (omega arith) c.value-item.is c.in_ok-push.ensures.items c.mul.ensures c.loop-value.invariant
