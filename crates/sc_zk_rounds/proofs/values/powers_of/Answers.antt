use Rattle.sc_zk_rounds.proofs.ValueLaws.{powers-push}
use Rattle.sc_zk_rounds.proofs.values.powers_of.Goals as goal

-- one power more
pub loop-i-preserved : goal.loop-i-preserved
loop-i-preserved g c =
    powers-push g.EF.Field.ops g.EF.Field.number c.loop-i.powers.items _ c.exp_u64.result (g.EF.Field.number c.args.x) c.loop-i.i c.in_ok-push.ensures.items c.exp_u64.ensures c.loop-i.invariant
