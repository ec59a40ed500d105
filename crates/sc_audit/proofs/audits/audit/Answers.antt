use Rattle.sc_jobs.proofs.ResultLaws.{answer-given}
use Rattle.sc_audit.proofs.audits.audit.Goals as goal

pub returns-clause-given : goal.returns-clause-given
returns-clause-given g c =
    answer-given g.F.Field.number g.EF.Field.number _ c.audit_by.result _ (λ x. g.met.F.Field.number_below x) c.audit_by.ensures.answer
