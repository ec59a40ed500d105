use Rattle.std.proofs.Common.{◌<◌, sym, ◌∙◌, ap, arith, map}
use Rattle.std.proofs.lemmas.List.Elements.{All-map}
use Rattle.sc_definitions.specs.ProverViews.{ProverView}
use Rattle.sc_rounds.specs.ProverViews.{image_prover_state_of}
use Rattle.sc_table.specs.declared.strategy.Strategy.TheVariants.{Represented}
use Rattle.sc_svo.specs.Grids.{grid_shown}
use Rattle.sc_jobs.specs.Cases.{build, asked_to}
use Rattle.sc_jobs.proofs.BuiltReports.{same_setting, same_start, built_case}
use Rattle.sc_audit.proofs.RefusedBuilds.{build_refused}
use Rattle.sc_audit.proofs.strategies.represented.Goals as goal

-- each variable has had its round
pub last_values-requires : goal.last_values-requires
last_values-requires g c =
    omega (arith, c.in-Ok.ensures.batch.whole, c.num_variables.ensures, ap (λ (s : ProverView). s.variables) (c.in_ok-prover.ensures.shown ∙ c.in_ok-prover_of.ensures))

-- the rounds were built
pub returns : goal.returns
returns g c =
    let N = g.EF.Field.number in
    let job = c.args.fitting.now.job.now in
    let q = asked_to job (build Represented) (g.C.Challenger.party c.args.challenger.now).rules (g.C.Challenger.party c.args.challenger.now).history in
    let ring = g.met.EF.Field.is_field.ring in
    let degree = sym g.met.EF.ExtensionField.degree_is in
    let shows = c.in_ok-prover.ensures.shown ∙ c.in_ok-prover_of.ensures in
    let setting = same_setting q ring c.args.fitting.now.offered c.in_ok-copied.ensures.rules c.in_ok-copied.ensures.history shows c.new-rounds.ensures degree c.num_variables.ensures in
    let start = same_start q ring c.args.fitting.now.offered c.in_ok-copied.ensures.rules c.in_ok-copied.ensures.history shows c.new-rounds.ensures degree c.num_variables.ensures in
    let after = image_prover_state_of c.compute_sumcheck_polynomials.new.self c.compute_sumcheck_polynomials.new.sumcheck_data (g.C.Challenger.party c.compute_sumcheck_polynomials.new.challenger).history in
    built_case q ring c.args.fitting.now.offered _ setting start c.num_variables.ensures after c.in-Ok.ensures.batch (c.claimed_sum-claim.ensures ∙ ap (λ (s : ProverView). s.claim) shows)
    c.in_ok-eval.ensures.eval c.in_ok-eval.ensures.weight (g.met.EF.Field.number_below _) (g.met.EF.Field.number_below _)
    (ap (map (grid_shown N)) c.empty.ensures)

-- they were refused
pub returns-in-Err : goal.returns-in-Err
returns-in-Err g c =
    let N = g.EF.Field.number in
    let job = c.args.fitting.now.job.now in
    let q = asked_to job (build Represented) (g.C.Challenger.party c.args.challenger.now).rules (g.C.Challenger.party c.args.challenger.now).history in
    let ring = g.met.EF.Field.is_field.ring in
    let degree = sym g.met.EF.ExtensionField.degree_is in
    let shows = c.in_ok-prover.ensures.shown ∙ c.in_ok-prover_of.ensures in
    let setting = same_setting q ring c.args.fitting.now.offered c.in_ok-copied.ensures.rules c.in_ok-copied.ensures.history shows c.new-rounds.ensures degree c.num_variables.ensures in
    let start = same_start q ring c.args.fitting.now.offered c.in_ok-copied.ensures.rules c.in_ok-copied.ensures.history shows c.new-rounds.ensures degree c.num_variables.ensures in
    let after = image_prover_state_of c.compute_sumcheck_polynomials.new.self c.compute_sumcheck_polynomials.new.sumcheck_data (g.C.Challenger.party c.compute_sumcheck_polynomials.new.challenger).history in
    build_refused q ring c.args.fitting.now.offered _ setting start c.num_variables.ensures after g.F.Field.number N c.in-Err.error c.refusal.result c.refusal.ensures
    (All-map (λ n. n < g.F.Field.ops.size) g.F.Field.number _ (λ k d low. g.met.F.Field.number_below _)) c.in-Err.ensures.batch
