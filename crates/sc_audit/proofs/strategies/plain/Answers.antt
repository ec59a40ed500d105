use Rattle.std.proofs.Common.{◌≡◌, ◌∷◌, [], ◌^◌, ◌<◌, sym, ◌∙◌, ap, subst, All, arith, length, map}
use Rattle.std.proofs.lemmas.List.Elements.{All-map}
use Rattle.sc_definitions.proofs.LoopLaws.{entry-read}
use Rattle.sc_definitions.specs.Channels.{Wire}
use Rattle.sc_definitions.specs.ProverViews.{ProverView}
use Rattle.sc_rounds.specs.ProverViews.{prover_state_of}
use Rattle.sc_rounds.proofs.ShownLaws.{same_entries}
use Rattle.sc_table.specs.declared.strategy.Strategy.TheVariants.{Plain}
use Rattle.sc_svo.specs.Grids.{grid_shown}
use Rattle.sc_jobs.specs.Cases.{build, asked_to}
use Rattle.sc_jobs.proofs.BuiltReports.{one_entry, same_setting, same_start, built_case}
use Rattle.sc_audit.proofs.RefusedBuilds.{build_refused}
use Rattle.sc_audit.proofs.strategies.plain.Goals as goal

-- the rounds were built
pub returns : goal.returns
returns g c =
    let N = g.EF.Field.number in
    let job = c.args.fitting.now.job.now in
    let q = asked_to job (build Plain) (g.C.Challenger.party c.args.challenger.now).rules (g.C.Challenger.party c.args.challenger.now).history in
    let ring = g.met.EF.Field.is_field.ring in
    let degree = sym g.met.EF.ExtensionField.degree_is in
    let setting = same_setting q ring c.args.fitting.now.offered c.in_ok-copied.ensures.rules c.in_ok-copied.ensures.history c.in_ok-base.ensures c.new-rounds.ensures degree c.num_variables-variables.ensures in
    let start = same_start q ring c.args.fitting.now.offered c.in_ok-copied.ensures.rules c.in_ok-copied.ensures.history c.in_ok-base.ensures c.new-rounds.ensures degree c.num_variables-variables.ensures in
    let after = prover_state_of c.in-Ok.played.0 c.compute_sumcheck_polynomials.new.sumcheck_data (g.C.Challenger.party c.compute_sumcheck_polynomials.new.challenger).history in
    let whole = c.in-Ok.ensures.whole in
    let none_left : after.variables ≡ 0 = omega (arith, whole.whole, c.num_variables-variables.ensures, ap (λ (s : ProverView). s.variables) c.in_ok-base.ensures) in
    let kept = c.in_ok-weights.ensures.kept in
    let weights_one : length c.as_slice.result.now ≡ 1 = c.as_slice.ensures.size ∙ ap (λ k. 2 ^ k) (c.in_ok-weights.ensures.variables ∙ none_left) in
    let evals_one : length c.evals_view.result.now ≡ 1 = c.evals_view.ensures.size ∙ ap (λ k. 2 ^ k) (ap (λ (s : ProverView). s.variables) kept ∙ none_left) in
    let evals : after.evals ≡ N c.index-evals_view-0.result ∷ [] =
    sym (c.evals_view.ensures.numbers ∙ ap (λ (s : ProverView). s.evals) kept)
    ∙ one_entry N c.evals_view.result.now _ evals_one (entry-read N c.evals_view.result.now 0 c.index-evals_view-0.result (omega (arith, evals_one)) c.index-evals_view-0.is) in
    let weights : after.weights ≡ N c.index-as_slice-0.result ∷ [] =
    sym (same_entries N c.in_ok-weights.field-0 _ c.as_slice.ensures.size c.as_slice.ensures.numbers ∙ c.in_ok-weights.ensures.table)
    ∙ one_entry N c.as_slice.result.now _ weights_one (entry-read N c.as_slice.result.now 0 c.index-as_slice-0.result (omega (arith, weights_one)) c.index-as_slice-0.is) in
    built_case q ring c.args.fitting.now.offered _ setting start c.num_variables-variables.ensures after whole (c.claimed_sum-claim.ensures ∙ ap (λ (s : ProverView). s.claim) c.in_ok-base.ensures) evals weights
    (g.met.EF.Field.number_below _) (g.met.EF.Field.number_below _) (ap (map (grid_shown N)) c.empty.ensures)

-- they were refused
pub returns-in-Err : goal.returns-in-Err
returns-in-Err g c =
    let N = g.EF.Field.number in
    let job = c.args.fitting.now.job.now in
    let q = asked_to job (build Plain) (g.C.Challenger.party c.args.challenger.now).rules (g.C.Challenger.party c.args.challenger.now).history in
    let ring = g.met.EF.Field.is_field.ring in
    let degree = sym g.met.EF.ExtensionField.degree_is in
    let setting = same_setting q ring c.args.fitting.now.offered c.in_ok-copied.ensures.rules c.in_ok-copied.ensures.history c.in_ok-base.ensures c.new-rounds.ensures degree c.num_variables-variables.ensures in
    let start = same_start q ring c.args.fitting.now.offered c.in_ok-copied.ensures.rules c.in_ok-copied.ensures.history c.in_ok-base.ensures c.new-rounds.ensures degree c.num_variables-variables.ensures in
    let stopped = c.in-Err.ensures.refused in
    build_refused q ring c.args.fitting.now.offered _ setting start c.num_variables-variables.ensures stopped.after g.F.Field.number N c.in-Err.error c.refusal.result c.refusal.ensures
    (subst (λ (w : Wire). All (λ n. n < g.F.Field.ops.size) w.witnesses) (sym stopped.wire_is)
    (All-map (λ n. n < g.F.Field.ops.size) g.F.Field.number _ (λ k d low. g.met.F.Field.number_below _))) stopped.breaks

-- no variable is
pub returns-then-variables-eq0 : goal.returns-then-variables-eq0
returns-then-variables-eq0 g c = c.roundless.ensures (g.C.Challenger.party c.args.challenger.now).rules (g.C.Challenger.party c.args.challenger.now).history
