use Rattle.std.proofs.Common.{◌∙◌, map, sym, ap, subst, arith}
use Rattle.std.proofs.lemmas.Result.{IfOk-weaker}
use Rattle.sc_audit_errors.proofs.ArityLaws.{shifted}
use Rattle.sumcheck_make.specs.Made.{PartsFit, parts_in, parts_end}
use Rattle.sumcheck_make.specs.Values.{number_of}
use Rattle.sumcheck_make.proofs.MadeJobs.{made-holds, parts-fit, about-shape, about-reply}
use Rattle.sumcheck_make.proofs.made.make.Goals as goal

pub job_of-requires : goal.job_of-requires
job_of-requires c =
    subst PartsFit (sym (c.in_ok-parts.ensures c.args.recipe.number c.new-values.ensures).0) (parts-fit c.args.recipe.number c.args.recipe.variables)

-- the shape of what is made is not refused
pub answer_in_short-requires : goal.answer_in_short-requires
answer_in_short-requires c =
    let r = c.args.recipe in
    let parts = c.in_ok-parts.ensures r.number c.new-values.ensures in
    about-shape r _ (parts_in number_of c.in_ok-parts.parts) _ _ _ c.new-challenger.result.events.items c.requires (c.in_ok-job.ensures _ _) parts.0 c.new-challenger.ensures.rules

pub returns-clause-reply : goal.returns-clause-reply
returns-clause-reply c =
    let r = c.args.recipe in
    let parts = c.in_ok-parts.ensures r.number c.new-values.ensures in
    let draws = c.in_ok-draws.ensures r.number (parts_end r.variables) parts.1 in
    IfOk-weaker c.answer_in_short.result _ _
    (λ a e. e ∙ about-reply r _ _ (parts_in number_of c.in_ok-parts.parts) (map number_of c.in_ok-draws.draws.items) _ _ _ (shifted r.variables (omega (arith, c.requires.few)))
    (c.in_ok-job.ensures _ _) parts.0 c.new-challenger.ensures.rules draws.0 (ap (map (λ list. map number_of list.items)) c.new.ensures.items) c.new-challenger.ensures.history)
    c.answer_in_short.ensures

-- the statements that are made are true
pub returns-clause-holds : goal.returns-clause-holds
returns-clause-holds c = made-holds c.args.recipe c.requires

pub returns-in_err-parts-clause-holds : goal.returns-in_err-parts-clause-holds
returns-in_err-parts-clause-holds c = made-holds c.args.recipe c.requires

pub returns-in_err-draws-clause-holds : goal.returns-in_err-draws-clause-holds
returns-in_err-draws-clause-holds c = made-holds c.args.recipe c.requires

pub returns-in_err-job-clause-holds : goal.returns-in_err-job-clause-holds
returns-in_err-job-clause-holds c = made-holds c.args.recipe c.requires
