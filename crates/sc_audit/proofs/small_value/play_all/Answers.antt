use Rattle.std.proofs.Common.{◌≡◌, ◌++◌, map, ap, sym, ◌∙◌, refl, inl, rules}
use Rattle.sc_definitions.specs.Channels.{channel}
use Rattle.sc_definitions.specs.ProverStates.{ProverState}
use Rattle.sc_transcript.specs.Data.{wire_in}
use Rattle.sc_transcript.specs.Shapes.{shape_of, seed_of}
use Rattle.sc_definitions.specs.Events.{words}
use Rattle.sc_transcript.specs.declared.rounds.BatchShape.{BatchShape}
use Rattle.sc_transcript.specs.declared.transcript.SumcheckShape.{SumcheckShape}
use Rattle.sc_transcript.specs.declared.error.SumcheckError.TheVariants.{NoMemory}
use Rattle.sc_transcript.proofs.ReplayedLaws.{same_channel}
use Rattle.sc_transcript.proofs.Lent.{returned}
use Rattle.sc_rounds.specs.Provers.{shown_of}
use Rattle.sc_definitions.specs.ProverViews.{setting_at, prover_state_at}
use Rattle.sc_transcript.specs.Batches.{batch_at}
use Rattle.sc_transcript.proofs.BatchLaws.{same_setting, played_at, sum_at}
use Rattle.sc_rounds.proofs.BaseLaws.{breaks_batch, whole_as, breaks_as}
use Rattle.sc_jobs.specs.Cases.{problem_in}
use Rattle.sc_jobs.specs.BuiltCases.{prover_for}
use Rattle.sc_audit.proofs.LeftPairs.{rounds_broken}
use Rattle.sc_audit.proofs.small_value.play_all.Goals as goal

-- without memory for the challenges or the seed nothing has begun
pub returns-in_err-challenges : goal.returns-in_err-challenges
returns-in_err-challenges g c =
    let N = g.EF.Field.number in
    let H = λ (x : g.row.C.Denot). (g.C.Challenger.party x).history in
    let on = wire_in g.F.Field.number N c.args.sumcheck_data.now in
    rounds_broken _ _ c.from_residual.result NoMemory c.from_residual.ensures.1
    (record { after = prover_state_at (prover_for g.EF.Field.ops (problem_in c.args.fitting.now.job.now)) (H c.args.challenger.now) on; history = refl; wire_is = refl; breaks = inl refl })

pub returns-in_err-seed : goal.returns-in_err-seed
returns-in_err-seed g c =
    let N = g.EF.Field.number in
    let H = λ (x : g.row.C.Denot). (g.C.Challenger.party x).history in
    let on = wire_in g.F.Field.number N c.args.sumcheck_data.now in
    rounds_broken _ _ c.from_residual-in_err-seed.result NoMemory c.from_residual-in_err-seed.ensures.1
    (record {
      after = prover_state_at (prover_for g.EF.Field.ops (problem_in c.args.fitting.now.job.now)) (H c.args.challenger.now) on;
      history = sym c.in_err-seed.ensures.history;
      wire_is = refl;
      breaks = inl refl;
    })

-- all rounds were played
pub returns-in-Ok : goal.returns-in-Ok
returns-in-Ok g c =
    let o = g.EF.Field.ops in
    let N = g.EF.Field.number in
    let H = λ (x : g.row.C.Denot). (g.C.Challenger.party x).history in
    let R = λ (x : g.row.C.Denot). (g.C.Challenger.party x).rules in
    let job = c.args.fitting.now.job.now in
    let shown = prover_for o (problem_in job) in
    let on = wire_in g.F.Field.number N c.args.sumcheck_data.now in
    let batch = batch_at
    (setting_at (channel (R c.args.challenger.now) g.EF.ExtensionField.extension g.F.Field.ops.size job.pow_bits) o shown) (prover_state_at shown (H c.args.challenger.now) on)
    g.EF.ExtensionField.DEGREE (problem_in job).variables in
    let shape : c.new-shape.result ≡ shape_of (problem_in job).variables job.pow_bits job.basis =
    c.new-shape.ensures ∙ ap (λ k. shape_of k job.pow_bits job.basis) c.num_variables-variables.ensures in
    let seeded = ap (λ s. H c.args.challenger.now ++ words (seed_of g.EF.ExtensionField.DEGREE s)) shape in
    let begun = c.over-transcript.ensures in
    let setting = same_setting
    (same_channel g.F.Field.ops.size (ap R begun.lent.same ∙ c.in_ok-seed.ensures.rules) (ap (λ (s : BatchShape). s.pow_bits) begun.fresh.shape ∙ ap (λ (s : SumcheckShape). s.pow_bits) shape)) refl refl in
    let start = ap (λ h. prover_state_at shown h on) (ap H begun.lent.same ∙ c.in_ok-seed.ensures.history ∙ seeded) in
    let all = c.in-Ok.ensures.played in
    whole_as batch refl
    (ap (λ h. prover_state_at (shown_of N c.in-Ok.left c.play.new.sum) h (wire_in g.F.Field.number N c.play.new.sumcheck_data))
    (sym (ap H (returned (search rules) c.in-Ok.ensures.continues.lender begun.lent.lender c.finish.ensures))))
    (ap (map N) (sym c.new.ensures))
    (record {
      whole = sum_at _ _ _ _ (sym (all.done ∙ ap (λ (s : BatchShape). s.num_rounds) (c.in-Ok.ensures.continues.shape ∙ begun.fresh.shape) ∙ ap (λ (s : SumcheckShape). s.num_rounds) shape)) all.left;
      played = played_at setting start refl refl all.played;
    })

-- they stopped
pub returns-in-Err : goal.returns-in-Err
returns-in-Err g c =
    let o = g.EF.Field.ops in
    let N = g.EF.Field.number in
    let H = λ (x : g.row.C.Denot). (g.C.Challenger.party x).history in
    let R = λ (x : g.row.C.Denot). (g.C.Challenger.party x).rules in
    let job = c.args.fitting.now.job.now in
    let shown = prover_for o (problem_in job) in
    let on = wire_in g.F.Field.number N c.args.sumcheck_data.now in
    let batch = batch_at
    (setting_at (channel (R c.args.challenger.now) g.EF.ExtensionField.extension g.F.Field.ops.size job.pow_bits) o shown) (prover_state_at shown (H c.args.challenger.now) on)
    g.EF.ExtensionField.DEGREE (problem_in job).variables in
    let shape : c.new-shape.result ≡ shape_of (problem_in job).variables job.pow_bits job.basis =
    c.new-shape.ensures ∙ ap (λ k. shape_of k job.pow_bits job.basis) c.num_variables-variables.ensures in
    let seeded = ap (λ s. H c.args.challenger.now ++ words (seed_of g.EF.ExtensionField.DEGREE s)) shape in
    let begun = c.over-transcript.ensures in
    let setting = same_setting
    (same_channel g.F.Field.ops.size (ap R begun.lent.same ∙ c.in_ok-seed.ensures.rules) (ap (λ (s : BatchShape). s.pow_bits) begun.fresh.shape ∙ ap (λ (s : SumcheckShape). s.pow_bits) shape)) refl refl in
    let start = ap (λ h. prover_state_at shown h on) (ap H begun.lent.same ∙ c.in_ok-seed.ensures.history ∙ seeded) in
    let stopped = c.in-Err.ensures.played in
    let size = ap (λ (s : BatchShape). s.num_rounds) (c.in-Err.ensures.continues.shape ∙ begun.fresh.shape) ∙ ap (λ (s : SumcheckShape). s.num_rounds) shape in
    breaks_as batch refl
    (sym (ap H (returned (search rules) c.in-Err.ensures.continues.lender begun.lent.lender c.abort.ensures)))
    (record {
      after = stopped.after;
      history = stopped.history;
      wire_is = stopped.wire_is;
      breaks = breaks_batch batch _ _ stopped.after _ _ c.in-Err.error setting start (stopped.left ∙ ap (λ (t : ProverState). t.variables) start) stopped.within stopped.some size
          stopped.stopped;
    })
