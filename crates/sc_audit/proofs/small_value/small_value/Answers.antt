use Rattle.std.proofs.Common.{◌≡◌, ◌∷◌, [], ◌^◌, ◌<◌, length, refl, sym, ◌∙◌, ap, subst, All, arith}
use Rattle.std.proofs.lemmas.List.Elements.{All-map}
use Rattle.sc_definitions.specs.Channels.{Wire}
use Rattle.sc_definitions.specs.Problem.{claim_of}
use Rattle.sc_definitions.proofs.LoopLaws.{entry-read}
use Rattle.sc_table.specs.declared.strategy.Strategy.TheVariants.{SmallValue}
use Rattle.sc_statements.proofs.BatchSteps.{claim-alone}
use Rattle.sc_transcript.specs.Data.{wire_in}
use Rattle.sc_rounds.specs.Products.{variables_in}
use Rattle.sc_rounds.specs.ProverStates.{prover_state_in}
use Rattle.sc_svo.specs.Batches.{batch_in}
use Rattle.sc_jobs.specs.Cases.{build, asked_to, problem_in}
use Rattle.sc_jobs.proofs.BuiltReports.{one_entry, same_setting, same_start, built_case}
use Rattle.sc_audit.proofs.RefusedBuilds.{build_refused}
use Rattle.sc_jobs.proofs.FigureLaws.{claim-batched}
use Rattle.sc_audit.proofs.LeftPairs.{batch_grids}
use Rattle.sc_audit.proofs.small_value.small_value.Goals as goal

-- the claim that the rounds begin with
pub play_all-requires-clause-claim : goal.play_all-requires-clause-claim
play_all-requires-clause-claim g c =
    claim-batched g.EF.Field.ops _ _ (claim-alone g.EF.Field.ops g.met.EF.Field.is_field.ring _ _ _ (ap g.EF.Field.number c.ZERO-claim.ensures ∙ g.met.EF.Field.zero_is) c.combine_evals.ensures)

-- the rounds were built
pub returns : goal.returns
returns g c =
    let N = g.EF.Field.number in
    let o = g.EF.Field.ops in
    let job = c.args.fitting.now.job.now in
    let p = problem_in job in
    let q = asked_to job (build (SmallValue (length (batch_in c.args.batch).grids))) (g.C.Challenger.party c.args.challenger.now).rules (g.C.Challenger.party c.args.challenger.now).history in
    let ring = g.met.EF.Field.is_field.ring in
    let degree = sym g.met.EF.ExtensionField.degree_is in
    let setting = same_setting q ring c.args.fitting.now.offered c.in_ok-copied.ensures.rules c.in_ok-copied.ensures.history refl c.new-rounds.ensures degree refl in
    let start = same_start q ring c.args.fitting.now.offered c.in_ok-copied.ensures.rules c.in_ok-copied.ensures.history refl c.new-rounds.ensures degree refl in
    let left = c.in-Ok.played.0 in
    let after = prover_state_in N left c.play_all.new.sum (g.C.Challenger.party c.play_all.new.challenger).history (wire_in g.F.Field.number N c.play_all.new.sumcheck_data) in
    let whole = c.in-Ok.ensures in
    let none_left : variables_in left ≡ 0 = omega (arith, whole.whole) in
    let weights_one : length c.as_slice.result.now ≡ 1 = c.as_slice.ensures.size ∙ ap (λ k. 2 ^ k) (c.in_ok-weights.ensures.variables ∙ none_left) in
    let evals_one : length c.evals_view.result.now ≡ 1 = c.evals_view.ensures.size ∙ ap (λ k. 2 ^ k) none_left in
    let evals : after.evals ≡ N c.index-evals_view-0.result ∷ [] =
    one_entry N left.evals.evals.items _ (sym left.evals.evals.ok.0 ∙ left.evals.sized ∙ ap (λ k. 2 ^ k) none_left)
    (ap (λ t. t 0) (sym c.evals_view.ensures.numbers) ∙ entry-read N c.evals_view.result.now 0 c.index-evals_view-0.result (omega (arith, evals_one)) c.index-evals_view-0.is) in
    let weights : after.weights ≡ N c.index-as_slice-0.result ∷ [] =
    one_entry N left.weights.evals.items _ (sym left.weights.evals.ok.0 ∙ left.weights.sized ∙ ap (λ k. 2 ^ k) (sym left.same ∙ none_left))
    (ap (λ t. t 0) (sym (c.as_slice.ensures.numbers ∙ c.in_ok-weights.ensures.table))
    ∙ entry-read N c.as_slice.result.now 0 c.index-as_slice-0.result (omega (arith, weights_one)) c.index-as_slice-0.is) in
    let claim : N c.combine_evals.new.eval ≡ claim_of o p =
    claim-batched o _ _ (claim-alone o ring _ _ _ (ap N c.ZERO-claim.ensures ∙ g.met.EF.Field.zero_is) c.combine_evals.ensures) in
    built_case q ring c.args.fitting.now.offered _ setting start refl after whole claim evals weights (g.met.EF.Field.number_below _) (g.met.EF.Field.number_below _)
    (c.into_grids.ensures ∙ batch_grids o p (batch_in c.args.batch) c.requires.batch _ refl)

-- they were refused
pub returns-in-Err : goal.returns-in-Err
returns-in-Err g c =
    let N = g.EF.Field.number in
    let o = g.EF.Field.ops in
    let job = c.args.fitting.now.job.now in
    let p = problem_in job in
    let q = asked_to job (build (SmallValue (length (batch_in c.args.batch).grids))) (g.C.Challenger.party c.args.challenger.now).rules (g.C.Challenger.party c.args.challenger.now).history in
    let ring = g.met.EF.Field.is_field.ring in
    let degree = sym g.met.EF.ExtensionField.degree_is in
    let setting = same_setting q ring c.args.fitting.now.offered c.in_ok-copied.ensures.rules c.in_ok-copied.ensures.history refl c.new-rounds.ensures degree refl in
    let start = same_start q ring c.args.fitting.now.offered c.in_ok-copied.ensures.rules c.in_ok-copied.ensures.history refl c.new-rounds.ensures degree refl in
    let stopped = c.in-Err.ensures in
    build_refused q ring c.args.fitting.now.offered _ setting start refl stopped.after g.F.Field.number N c.in-Err.error c.refusal.result c.refusal.ensures
    (subst (λ (w : Wire). All (λ n. n < g.F.Field.ops.size) w.witnesses) (sym stopped.wire_is)
    (All-map (λ n. n < g.F.Field.ops.size) g.F.Field.number _ (λ k d low. g.met.F.Field.number_below _))) stopped.breaks
