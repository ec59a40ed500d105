use Rattle.std.proofs.Common.{◌≡◌, Some, sym, ◌∙◌, ap, map}
use Rattle.std.proofs.lemmas.List.{length-map}
use Rattle.sc_definitions.specs.Channels.{verifier_state}
use Rattle.sc_definitions.specs.Problem.{claim_of}
use Rattle.sc_statements.proofs.BatchSteps.{claim-alone}
use Rattle.sc_jobs.specs.Cases.{asked_of, with_task, check, problem_in, given_in}
use Rattle.sc_jobs.proofs.CauseLaws.{unrefused, caused_err, refused_err}
use Rattle.sc_jobs.proofs.CountLaws.{count-none}
use Rattle.sc_jobs.proofs.FigureLaws.{claim-batched, start_is}
use Rattle.sc_jobs.proofs.CheckedReports.{checked_whole, residual_checked, challenges_checked, report_checked, proof_refused, counts_refused}
use Rattle.sc_audit.proofs.checking.check_rounds.Goals as goal

-- the claim that the replay begins with
pub report_on-requires-clause-claim : goal.report_on-requires-clause-claim
report_on-requires-clause-claim g c =
    claim-batched g.EF.Field.ops _ _ (claim-alone g.EF.Field.ops g.met.EF.Field.is_field.ring _ _ _ (ap g.EF.Field.number c.ZERO-claim.ensures ∙ g.met.EF.Field.zero_is) c.combine_evals.ensures)

pub report_on-requires-clause-count : goal.report_on-requires-clause-count
report_on-requires-clause-count g c =
    let N = g.EF.Field.number in
    let job = c.args.fitting.now.job.now in
    let q = asked_of job (g.C.Challenger.party c.args.challenger.now).rules (g.C.Challenger.party c.args.challenger.now).history in
    let given = given_in g.F.Field.number N c.args.proof.now in
    let claim : N c.combine_evals.new.eval ≡ claim_of g.EF.Field.ops (problem_in job) =
    claim-batched g.EF.Field.ops _ _ (claim-alone g.EF.Field.ops g.met.EF.Field.is_field.ring _ _ _ (ap N c.ZERO-claim.ensures ∙ g.met.EF.Field.zero_is) c.combine_evals.ensures) in
    let start = start_is q _ _ _ (sym g.met.EF.ExtensionField.degree_is) c.num_variables.ensures claim in
    let end = verifier_state (g.C.Challenger.party c.verify_rounds.new.challenger).history (N c.verify_rounds.new.claimed_sum) in
    let out = map N c.in-Ok.challenges in
    let whole = checked_whole q given end out _ _ c.num_variables.ensures start c.in-Ok.ensures.left in
    sym (length-map c.in-Ok.challenges N) ∙ challenges_checked q given end out whole

pub report_on-requires-clause-residual : goal.report_on-requires-clause-residual
report_on-requires-clause-residual g c =
    let N = g.EF.Field.number in
    let job = c.args.fitting.now.job.now in
    let q = asked_of job (g.C.Challenger.party c.args.challenger.now).rules (g.C.Challenger.party c.args.challenger.now).history in
    let given = given_in g.F.Field.number N c.args.proof.now in
    let claim : N c.combine_evals.new.eval ≡ claim_of g.EF.Field.ops (problem_in job) =
    claim-batched g.EF.Field.ops _ _ (claim-alone g.EF.Field.ops g.met.EF.Field.is_field.ring _ _ _ (ap N c.ZERO-claim.ensures ∙ g.met.EF.Field.zero_is) c.combine_evals.ensures) in
    let start = start_is q _ _ _ (sym g.met.EF.ExtensionField.degree_is) c.num_variables.ensures claim in
    let end = verifier_state (g.C.Challenger.party c.verify_rounds.new.challenger).history (N c.verify_rounds.new.claimed_sum) in
    let out = map N c.in-Ok.challenges in
    let whole = checked_whole q given end out _ _ c.num_variables.ensures start c.in-Ok.ensures.left in
    residual_checked q given end out whole

-- a replay that was reported on
pub returns-clause-task : goal.returns-clause-task
returns-clause-task g c =
    let N = g.EF.Field.number in
    let job = c.args.fitting.now.job.now in
    let q = asked_of job (g.C.Challenger.party c.args.challenger.now).rules (g.C.Challenger.party c.args.challenger.now).history in
    let given = given_in g.F.Field.number N c.args.proof.now in
    let claim : N c.combine_evals.new.eval ≡ claim_of g.EF.Field.ops (problem_in job) =
    claim-batched g.EF.Field.ops _ _ (claim-alone g.EF.Field.ops g.met.EF.Field.is_field.ring _ _ _ (ap N c.ZERO-claim.ensures ∙ g.met.EF.Field.zero_is) c.combine_evals.ensures) in
    let start = start_is q _ _ _ (sym g.met.EF.ExtensionField.degree_is) c.num_variables.ensures claim in
    let end = verifier_state (g.C.Challenger.party c.verify_rounds.new.challenger).history (N c.verify_rounds.new.claimed_sum) in
    let out = map N c.in-Ok.challenges in
    let whole = checked_whole q given end out _ _ c.num_variables.ensures start c.in-Ok.ensures.left in
    record {
      answers = report_checked q given end out whole g.F.Field.number N _ c.report_on.result c.report_on.ensures;
      refused = unrefused _ _ (count-none (problem_in job).variables job.pow_bits given whole.count whole.found);
    }

-- a replay that was refused
pub returns-in-Err-clause-task : goal.returns-in-Err-clause-task
returns-in-Err-clause-task g c =
    let N = g.EF.Field.number in
    let job = c.args.fitting.now.job.now in
    let q = asked_of job (g.C.Challenger.party c.args.challenger.now).rules (g.C.Challenger.party c.args.challenger.now).history in
    let given = given_in g.F.Field.number N c.args.proof.now in
    let claim : N c.combine_evals.new.eval ≡ claim_of g.EF.Field.ops (problem_in job) =
    claim-batched g.EF.Field.ops _ _ (claim-alone g.EF.Field.ops g.met.EF.Field.is_field.ring _ _ _ (ap N c.ZERO-claim.ensures ∙ g.met.EF.Field.zero_is) c.combine_evals.ensures) in
    let start = start_is q _ _ _ (sym g.met.EF.ExtensionField.degree_is) c.num_variables.ensures claim in
    let end = verifier_state (g.C.Challenger.party c.verify_rounds.new.challenger).history (N c.verify_rounds.new.claimed_sum) in
    record {
      answers = caused_err _ (with_task q (check (Some given))) _ _ _ c.refusal.ensures (proof_refused q given _ _ _ end _ c.in-Err.error c.num_variables.ensures start (λ kept. kept) c.in-Err.ensures.left);
      refused = refused_err _ _ _ _ c.refusal.ensures (counts_refused q given _ _ _ end _ c.in-Err.error c.num_variables.ensures c.in-Err.ensures.left);
    }
