use Rattle.std.proofs.Common.{◌<◌, length, refl, arith}
use Rattle.sc_definitions.specs.Ring.{plus}
use Rattle.sc_definitions.specs.Tables.{entries}
use Rattle.sc_definitions.proofs.LoopLaws.{entry-read}
use Rattle.sc_rounds.proofs.MovedEntries.{moved-more}
use Rattle.sc_rounds.proofs.product_polynomial.add_entries.Goals as goal

pub loop-i-init : goal.loop-i-init
loop-i-init g c = record { done = λ b low. absurd (omega (arith, low)); left = λ b _. refl }

pub loop-i-preserved : goal.loop-i-preserved
loop-i-preserved g c =
    let f = g.EF.Field in
    let i = c.loop-i.i in
    let low : i < length c.loop-i.totals = omega arith in
    let within : i < length c.args.values.now = omega arith in
    let total = entry-read f.number c.loop-i.totals i c.index-totals-i.result low c.index-totals-i.is in
    let part = entry-read f.number c.args.values.now i c.index-values-i.result within c.index-values-i.is in
    moved-more f.number (λ b x. plus f.ops x (entries f.number c.args.values.now b)) c.args.totals.now i c.loop-i.totals c.add.result low c.loop-i.invariant (cc (c.add.ensures, total, part))

pub returns : goal.returns
returns g c = λ b low. c.loop-i.invariant.done b (omega (arith, low))
