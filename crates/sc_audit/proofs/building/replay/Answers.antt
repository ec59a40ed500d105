use Rattle.std.proofs.Common.{refl, sym, map, subst}
use Rattle.sc_definitions.specs.Rounds.{next_claim}
use Rattle.sc_definitions.specs.Replays.{given_rounds}
use Rattle.sc_definitions.specs.Channels.{verifier_state, IsReplayed}
use Rattle.sc_jobs.specs.Cases.{asked_to, build}
use Rattle.sc_audit.specs.Built.{kept_in}
use Rattle.sc_jobs.proofs.CauseLaws.{caused_err}
use Rattle.sc_jobs.proofs.FigureLaws.{start_is}
use Rattle.sc_jobs.proofs.BuiltReports.{report_built, replay_broken}
use Rattle.sc_audit.proofs.building.replay.Goals as goal

-- what was built is reported on
pub returns-clause-answers : goal.returns-clause-answers
returns-clause-answers g c = λ strategy built.
    let job = c.args.fitting.now.job.now in
    let N = g.EF.Field.number in
    let q = asked_to job (build strategy) (g.C.Challenger.party c.args.challenger.now).rules (g.C.Challenger.party c.args.challenger.now).history in
    let kept = kept_in g.F.Field.number N c.args.built in
    let start = start_is q _ _ _ (sym g.met.EF.ExtensionField.degree_is) c.num_variables.ensures built.claim in
    let end = verifier_state (g.C.Challenger.party c.verify_rounds.new.challenger).history (N c.verify_rounds.new.claimed_sum) in
    let replayed = subst (λ f. IsReplayed (next_claim q.case.problem.basis g.EF.Field.ops) q.channel f end (given_rounds kept.wire.messages kept.wire.witnesses) (map N c.in_default.field-0)) start c.in_default.ensures.left.1.replays in
    report_built q g.met.EF.Field.is_field.ring c.args.fitting.now.offered kept built strategy end (map N c.in_default.field-0) built.grids c.requires.all_true replayed

-- its replay is broken off for want of memory alone
pub returns-in-Err-clause-answers : goal.returns-in-Err-clause-answers
returns-in-Err-clause-answers g c = λ strategy built.
    let job = c.args.fitting.now.job.now in
    let N = g.EF.Field.number in
    let q = asked_to job (build strategy) (g.C.Challenger.party c.args.challenger.now).rules (g.C.Challenger.party c.args.challenger.now).history in
    let kept = kept_in g.F.Field.number N c.args.built in
    let start = start_is q _ _ _ (sym g.met.EF.ExtensionField.degree_is) c.num_variables.ensures built.claim in
    let end = verifier_state (g.C.Challenger.party c.verify_rounds.new.challenger).history (N c.verify_rounds.new.claimed_sum) in
    caused_err _ q _ _ _ c.refusal.ensures
    (replay_broken q g.met.EF.Field.is_field.ring c.args.fitting.now.offered kept built strategy _ _ _ end _ c.in-Err.error c.num_variables.ensures refl start (λ untouched. untouched) c.in-Err.ensures.left)
