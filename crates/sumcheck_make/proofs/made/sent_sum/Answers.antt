use Rattle.std.proofs.Common.{◌∙◌, ap, refl, arith}
use Rattle.sc_transcript.specs.Data.{pair_of}
use Rattle.sumcheck_make.specs.Made.{sum_of}
use Rattle.sumcheck_make.proofs.MadeLaws.{sent_more}
use Rattle.sumcheck_make.proofs.made.sent_sum.Goals as goal

pub loop-message-init : goal.loop-message-init
unfolding sum_of
loop-message-init g c = ap g.EF.Field.number c.ZERO-sum.ensures ∙ g.met.EF.Field.zero_is

pub loop-message-preserved : goal.loop-message-preserved
loop-message-preserved g c =
    let N = g.EF.Field.number in
    let m = c.message-item.result in
    sent_more g.EF.Field.ops g.met.EF.Field.is_field.ring (pair_of N) c.args.messages.now c.loop-message.message-index m (N m.c_a) (N m.c_inf) (N c.loop-message.sum)
    (N c.add-sum.result) (N c.add.result) (omega arith) c.message-item.is refl (g.met.EF.Field.number_below m.c_inf) c.add.ensures c.add-sum.ensures c.loop-message.invariant
