use Rattle.std.proofs.Common.{◌∙◌, ap}
use Rattle.std.proofs.lemmas.Result.{IfOk-from_err}
use Rattle.sc_definitions.specs.Tables.{entries}
use Rattle.sc_field.proofs.EntryLaws.{entry-filled}
use Rattle.sc_circuit.proofs.rows.zeros.Goals as goal

pub returns-clause-zero : goal.returns-clause-zero
returns-clause-zero g c = λ b.
    let e = g.EF.Field in
    ap (λ xs. entries e.number xs b) c.in_ok-resize.ensures.items
    ∙ entry-filled e.number c.new-rows.result.items c.ZERO.result _ _ b c.new-rows.ensures.items (ap e.number c.ZERO.ensures ∙ g.met.EF.Field.zero_is)

pub returns-in_err-resize-clause-zero : goal.returns-in_err-resize-clause-zero
returns-in_err-resize-clause-zero g c = IfOk-from_err c.from_residual.result _ c.from_residual.ensures.0
