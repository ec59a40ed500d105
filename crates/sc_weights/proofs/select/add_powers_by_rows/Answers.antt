use Rattle.std.proofs.Common.{◌<◌, length, refl, sym, ◌∙◌, ap, arith}
use Rattle.sc_definitions.specs.Ring.{plus}
use Rattle.sc_definitions.proofs.LoopLaws.{entry-read}
use Rattle.sc_weights.proofs.PowerSteps.{added-none, added-more}
use Rattle.sc_weights.proofs.select.add_powers_by_rows.Goals as goal

pub loop-row-init : goal.loop-row-init
loop-row-init g c =
    let f = g.EF.Field in
    added-none f.ops g.met.EF.Field.is_field.ring _ _ _ _ (g.met.EF.Field.number_below c.args.scale) refl

pub loop-row-preserved : goal.loop-row-preserved
loop-row-preserved g c =
    let f = g.EF.Field in
    let l = c.loop-row in
    let low : l.row-index < length l.rows = omega (arith, c.loop-row-test.true, l.auto.rows) in
    added-more f.ops g.met.EF.Field.is_field.ring _ _ f.number l.rows l.row-index _ c.add.result (f.number l.power) _ l.invariant low
    (c.add.ensures ∙ ap (λ k. plus f.ops k (f.number l.power)) (ap f.number (sym c.row-item.is) ∙ sym (entry-read f.number l.rows l.row-index c.row-item.result low c.row-item.is))) c.mul_base-power.ensures

pub returns : goal.returns
returns g c = λ b low. c.loop-row.invariant.passed b (omega (arith, low, c.loop-row-test.false))
