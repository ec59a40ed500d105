use Rattle.std.proofs.Common.{◌<◌, length, refl, arith}
use Rattle.sc_definitions.specs.Ring.{times}
use Rattle.sc_definitions.proofs.LoopLaws.{entry-read}
use Rattle.sc_rounds.proofs.MovedEntries.{moved-more}
use Rattle.sc_zk_layout.proofs.scaled.scale_rows.Goals as goal

pub loop-i-init : goal.loop-i-init
loop-i-init g c = record { done = λ b low. absurd (omega (arith, low)); left = λ b _. refl }

pub loop-i-preserved : goal.loop-i-preserved
loop-i-preserved g c =
    let f = g.EF.Field in
    let i = c.loop-i.i in
    let low : i < length c.loop-i.rows = omega arith in
    let value = entry-read f.number c.loop-i.rows i c.index-rows-i.result low c.index-rows-i.is in
    moved-more f.number (λ b x. times f.ops x (f.number c.args.scale)) c.args.rows.now i c.loop-i.rows c.mul.result low c.loop-i.invariant (cc (c.mul.ensures, value))

pub returns : goal.returns
returns g c = λ b low. c.loop-i.invariant.done b (omega (arith, low))
