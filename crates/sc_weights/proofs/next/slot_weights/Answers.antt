use Rattle.std.proofs.Common.{◌+◌, ◌*◌, ◌^◌, length, map, ◌∙◌, ap}
use Rattle.sc_definitions.specs.Ring.{plus, times}
use Rattle.sc_definitions.specs.Tables.{equality_weight}
use Rattle.sc_definitions.specs.Statements.{successor_weight}
use Rattle.sc_table.proofs.EntryLaws.{entry-replicate}
use Rattle.sc_weights.proofs.NextSteps.{slots-alone}
use Rattle.sc_weights.proofs.next.slot_weights.Goals as goal

pub returns : goal.returns
returns g c = λ a e low below.
    let f = g.EF.Field in
    let met = g.met.EF.Field in
    let v = equality_weight f.ops (map f.number c.args.selector.now) a in
    let u = successor_weight f.ops (map f.number c.args.point.now) e in
    c.add_slots_by_halves.ensures a e low below
    ∙ ap (λ k. plus f.ops k (times f.ops (f.number c.ONE.result) (times f.ops v u)))
    (entry-replicate f.number c.ZERO-weights.result 256 (a * 2 ^ length c.args.point.now + e) (ap f.number c.ZERO-weights.ensures ∙ met.zero_is))
    ∙ ap (λ k. plus f.ops 0 (times f.ops k (times f.ops v u))) (ap f.number c.ONE.ensures ∙ met.one_is)
    ∙ slots-alone f.ops met.is_field.ring v u
