use Rattle.std.proofs.Common.{◌≡◌, None, refl, sym, ◌∙◌, ap}
use Rattle.sc_constraints.specs.FalseClaims.{capped}
use Rattle.sc_jobs.specs.Cases.{asked_to, build, problem_in}
use Rattle.sc_jobs.specs.Refusals.{or_later, false_refusal, task_refusal}
use Rattle.sc_jobs.specs.Figures.{false_claim_of}
use Rattle.sc_jobs.proofs.CauseLaws.{answers_as, answers_err, unfit_caused, unrefused, refused_as}
use Rattle.sc_jobs.proofs.ClaimTests.{refused_passed, claims_caused, claims_refused}
use Rattle.sc_audit.proofs.building.build.Goals as goal

-- the strategy does not fit
pub returns-in_err-check_strategy-clause-task : goal.returns-in_err-check_strategy-clause-task
returns-in_err-check_strategy-clause-task g c =
    let p = problem_in c.args.fitting.now.job.now in
    let q = asked_to c.args.fitting.now.job.now (build c.args.strategy) (g.C.Challenger.party c.args.challenger.now).rules (g.C.Challenger.party c.args.challenger.now).history in
    let rest = false_refusal (capped (false_claim_of g.EF.Field.ops p)) in
    record {
      answers = answers_err g.F.Field.number g.EF.Field.number (task_refusal q) q c.from_residual.result _ _ c.from_residual.ensures.1
          (unfit_caused p c.args.strategy rest q _ _ c.in_err-check_strategy.ensures refl);
      refused = refused_passed _ (task_refusal q) c.from_residual.result _ c.from_residual.ensures.1
          (refused_as _ (task_refusal q) _ (ap (λ r. or_later r rest) c.in_err-check_strategy.ensures));
    }

-- a statement is false, or there is no memory for the way
pub returns-in_err-way-clause-task : goal.returns-in_err-way-clause-task
returns-in_err-way-clause-task g c =
    let p = problem_in c.args.fitting.now.job.now in
    let o = g.EF.Field.ops in
    let q = asked_to c.args.fitting.now.job.now (build c.args.strategy) (g.C.Challenger.party c.args.challenger.now).rules (g.C.Challenger.party c.args.challenger.now).history in
    let first : task_refusal q ≡ false_refusal (capped (false_claim_of o p)) = ap (λ r. or_later r (false_refusal (capped (false_claim_of o p)))) c.in_ok-check_strategy.ensures in
    record {
      answers = answers_err g.F.Field.number g.EF.Field.number (task_refusal q) q c.from_residual-in_err-way.result _ _ c.from_residual-in_err-way.ensures.1
          (claims_caused o p (task_refusal q) q _ _ c.in_err-way.ensures.tests first refl);
      refused = refused_passed _ (task_refusal q) c.from_residual-in_err-way.result _ c.from_residual-in_err-way.ensures.1
          (claims_refused o p _ (task_refusal q) _ c.in_err-way.ensures.tests first);
    }

-- nothing is refused before the rounds, which are played
pub returns-clause-task : goal.returns-clause-task
returns-clause-task g c =
    let job = c.args.fitting.now.job.now in
    let p = problem_in job in
    let o = g.EF.Field.ops in
    let R = (g.C.Challenger.party c.args.challenger.now).rules in
    let H = (g.C.Challenger.party c.args.challenger.now).history in
    let q = asked_to job (build c.args.strategy) R H in
    let first : task_refusal q ≡ None =
    ap (λ r. or_later r (false_refusal (capped (false_claim_of o p)))) c.in_ok-check_strategy.ensures ∙ ap (λ found. false_refusal (capped found)) c.in_ok-way.ensures.tests in
    record {
      answers = answers_as g.F.Field.number g.EF.Field.number None (task_refusal q) _ q c.play.result _ (sym first) (ap (λ s. asked_to job (build s) R H) c.in_ok-way.ensures.strategy) c.play.ensures.answers;
      refused = unrefused (task_refusal q) c.play.result first;
    }
