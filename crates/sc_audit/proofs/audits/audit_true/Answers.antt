use Rattle.sc_jobs.specs.Cases.{asked_of}
use Rattle.sc_jobs.specs.Results.{answer_to}
use Rattle.sc_jobs.proofs.ResultLaws.{answer-given, shape-given, given_err}
use Rattle.sc_jobs.proofs.StatedLaws.{restated-shape}
use Rattle.sc_audit.proofs.audits.audit_true.Goals as goal

-- a shape that is refused is told
pub returns-in_err-way-clause-given : goal.returns-in_err-way-clause-given
returns-in_err-way-clause-given g c =
    let R = (g.C.Challenger.party c.args.challenger.now).rules in
    let H = (g.C.Challenger.party c.args.challenger.now).history in
    let old = c.args.job.now in
    let now = c.state_truth.new.job in
    let same = restated-shape old now R H c.max_bits.result c.state_truth.ensures.kept old.table.ok.0 c.max_bits.ensures in
    given_err g.F.Field.number g.EF.Field.number (answer_to (asked_of now R H)) c.from_residual.result _ c.from_residual.ensures.1
    (shape-given (asked_of now R H) _ _ same c.in_err-way.ensures.refused)

pub returns-clause-given : goal.returns-clause-given
returns-clause-given g c =
    answer-given g.F.Field.number g.EF.Field.number _ c.audit_by.result _ (λ x. g.met.F.Field.number_below x) c.audit_by.ensures.answer
