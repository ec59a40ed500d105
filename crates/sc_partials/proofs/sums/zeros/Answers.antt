use Rattle.std.proofs.Common.{◌∙◌, ap}
use Rattle.sc_definitions.specs.Tables.{entries}
use Rattle.sc_table.proofs.EntryLaws.{entry-filled}
use Rattle.sc_partials.proofs.sums.zeros.Goals as goal

pub returns-clause-zero : goal.returns-clause-zero
returns-clause-zero g c k =
    let e = g.EF.Field in
    ap (λ xs. entries e.number xs k) c.in_ok-resize.ensures.items
    ∙ entry-filled e.number c.new-zero.result.items c.ZERO.result _ _ k c.new-zero.ensures.items (ap e.number c.ZERO.ensures ∙ g.met.EF.Field.zero_is)

pub returns-clause-infinity : goal.returns-clause-infinity
returns-clause-infinity g c k =
    let e = g.EF.Field in
    ap (λ xs. entries e.number xs k) (c.in_ok-infinity.ensures.items ∙ c.deref.ensures.value ∙ c.in_ok-resize.ensures.items)
    ∙ entry-filled e.number c.new-zero.result.items c.ZERO.result _ _ k c.new-zero.ensures.items (ap e.number c.ZERO.ensures ∙ g.met.EF.Field.zero_is)
