use Rattle.std.proofs.Common.{ap, ◌∙◌, refl}
use Rattle.std.proofs.lemmas.Result.{IfOk-from_err}
use Rattle.sumcheck_members.specs.Statements.{all_claims}
use Rattle.sumcheck_replies.specs.Fields.{Fields}
use Rattle.sumcheck_audit.proofs.ReportLaws.{asked-same}
use Rattle.sumcheck_audit.proofs.asked.audit_job.Goals as goal

pub returns : goal.returns
returns g c = λ R h.
    let k : Fields = record { ops = g.EF.Field.ops; base = g.F.Field.ops; extension = g.EF.ExtensionField.extension; embedding = g.EF.Algebra.embedding } in
    asked-same k g.F.Field.number _ c.args.job.now R h (c.in_ok-elements.ensures ∙ c.as_slice.ensures) refl c.in_ok-constraint_of.ensures.states.1
    (c.in_ok-constraint_of.ensures.states.0 ∙ ap (all_claims g.EF.Algebra.embedding) c.as_slice-2.ensures)
    (c.in_ok-constraint_of.ensures.batched.0 ∙ c.element-batching.ensures) c.in_ok-constraint_of.ensures.batched.1 c.in_ok-audit_mode.ensures

-- a refusal tells nothing of an answer
pub returns-in_err-elements : goal.returns-in_err-elements
returns-in_err-elements g c = IfOk-from_err c.from_residual.result _ c.from_residual.ensures.0

pub returns-in_err-constraint_of : goal.returns-in_err-constraint_of
returns-in_err-constraint_of g c = IfOk-from_err c.from_residual-in_err-constraint_of.result _ c.from_residual-in_err-constraint_of.ensures.0

pub returns-in_err-audit_mode : goal.returns-in_err-audit_mode
returns-in_err-audit_mode g c = IfOk-from_err c.from_residual-in_err-audit_mode.result _ c.from_residual-in_err-audit_mode.ensures.0
