use Rattle.std.proofs.Common.{◌∙◌, ap}
use Rattle.sc_definitions.specs.Tables.{entries}
use Rattle.sc_table.proofs.EntryLaws.{entry-filled}
use Rattle.sc_table.proofs.split_eq.zeros.Goals as goal

pub returns-clause-zero : goal.returns-clause-zero
returns-clause-zero g c = λ b.
    let a = g.A.Field in
    ap (λ xs. entries a.number xs b) c.in_ok-resize.ensures.items
    ∙ entry-filled a.number c.new-items.result.items c.ZERO.result _ _ b c.new-items.ensures.items (ap a.number c.ZERO.ensures
    ∙ g.met.A.Field.zero_is)
