use Rattle.std.proofs.Common.{◌∙◌, ap}
use Rattle.std.proofs.lemmas.Result.{IfOk-from_err}
use Rattle.sc_definitions.specs.Tables.{entries}
use Rattle.sc_table.proofs.EntryLaws.{entry-filled}
use Rattle.sc_table.proofs.poly.Poly.zero.Goals as goal

pub returns-clause-table : goal.returns-clause-table
returns-clause-table g c = λ b.
    let a = g.A.Field in
    ap (λ xs. entries a.number xs b) c.in_ok-resize.ensures.items
    ∙ entry-filled a.number c.new-evals.result.items c.ZERO.result _ _ b c.new-evals.ensures.items (ap a.number c.ZERO.ensures ∙ g.met.A.Field.zero_is)

-- a refusal tells nothing of an answer
pub returns-in_err-resize-clause-variables : goal.returns-in_err-resize-clause-variables
returns-in_err-resize-clause-variables g c = IfOk-from_err c.from_residual.result _ c.from_residual.ensures.0

pub returns-in_err-resize-clause-table : goal.returns-in_err-resize-clause-table
returns-in_err-resize-clause-table g c = IfOk-from_err c.from_residual.result _ c.from_residual.ensures.0
