use Rattle.std.proofs.Common.{◌≡◌, length, map, refl, ap, sym, ◌∙◌, arith}
use Rattle.std.proofs.lemmas.List.{length-map}
use Rattle.sc_definitions.specs.Tables.{entries}
use Rattle.sc_definitions.specs.Combined.{combined_weight}
use Rattle.sc_transcript.specs.Data.{wire_in}
use Rattle.sc_transcript.specs.Drivers.{channel_of}
use Rattle.sc_transcript.specs.Transcripts.{driver_in}
use Rattle.sc_transcript.specs.declared.rounds.BatchShape.{BatchShape}
use Rattle.sc_transcript.proofs.ReplayedLaws.{same_channel}
use Rattle.sc_rounds.specs.Provers.{shown_of}
use Rattle.sc_rounds.specs.HeldProducts.{prover_state_over}
use Rattle.sc_svo.specs.Batches.{batch_in}
use Rattle.sc_jobs.specs.Cases.{problem_in}
use Rattle.sc_audit.specs.SmallRounds.{setting_for, begun_for}
use Rattle.sc_audit.proofs.DrawnLaws.{drawn_wants}
use Rattle.sc_audit.proofs.LeftPairs.{begun_true, bound_as, left_sum, left_played, left_stops, plays_stopped}
use Rattle.sc_audit.proofs.small_value.play.Goals as goal

-- a small-value round was refused
pub returns-in_err-play_small-clause-played : goal.returns-in_err-play_small-clause-played
returns-in_err-play_small-clause-played g c =
    plays_stopped _ _ c.from_residual.result c.from_residual.ensures.1
    (c.in_err-play_small.ensures.drawn (problem_in c.args.fitting.now.job.now) c.requires.batch c.requires.claim)

-- there is no memory for what they leave
pub returns-in_err-evals-clause-played : goal.returns-in_err-evals-clause-played
returns-in_err-evals-clause-played g c =
    let N = g.EF.Field.number in
    let o = g.EF.Field.ops in
    let p = problem_in c.args.fitting.now.job.now in
    let small = c.in_ok-play_small.ensures in
    let d = driver_in c.play_small.new.transcript in
    let rs = map N c.play_small.new.challenges.items in
    let count : length rs ≡ length (batch_in c.args.batch.now).grids = length-map c.play_small.new.challenges.items N ∙ small.counts.count in
    plays_stopped _ _ c.from_residual-in_err-evals.result c.from_residual-in_err-evals.ensures.1
    (drawn_wants (setting_for g.EF.ExtensionField.extension o p c.args.transcript.now) g.met.EF.Field.is_field.ring c.args.fitting.now.offered (begun_for N o p c.args.transcript.now c.args.sumcheck_data.now) rs d
    (N c.play_small.new.sum) (wire_in g.F.Field.number N c.play_small.new.sumcheck_data) (small.drawn p c.requires.batch c.requires.claim)
    (omega (arith, count, c.requires.batch.within)) (small.counts.played ∙ sym count)
    (omega (arith, small.counts.played, c.requires.batch.within, c.requires.rounds, ap (λ (s : BatchShape). s.num_rounds) small.continues.shape)))

-- the claim is the sum of what they leave
pub play_rest-requires-clause-sum : goal.play_rest-requires-clause-sum
play_rest-requires-clause-sum g c =
    let N = g.EF.Field.number in
    let o = g.EF.Field.ops in
    let ring = g.met.EF.Field.is_field.ring in
    let p = problem_in c.args.fitting.now.job.now in
    let b = batch_in c.args.batch.now in
    let t = begun_for N o p c.args.transcript.now c.args.sumcheck_data.now in
    let made = c.new_unpacked-left.ensures in
    left_sum o N p b c.requires.batch (map N c.play_small.new.challenges.items) c.new_unpacked-left.result c.play_small.new.sum c.in_ok-evals.evals c.in_ok-evals.weights
    (bound_as o N b c.in_ok-evals.evals _ p.table _ _ (ap (λ xs k. g.EF.Algebra.embedding (entries g.F.Field.number xs k)) c.deref.ensures.value) (ap (map N) c.as_slice.ensures.value)
    c.in_ok-evals.ensures.evals)
    (bound_as o N b c.in_ok-evals.weights _ (combined_weight o b.claims) _ _ refl (ap (map N) c.as_slice.ensures.value) c.in_ok-evals.ensures.weights)
    made.variables made.evals made.weights (channel_of g.EF.ExtensionField.extension (driver_in c.args.transcript.now)) t.history (driver_in c.play_small.new.transcript).history t.wire
    (wire_in g.F.Field.number N c.play_small.new.sumcheck_data) (c.in_ok-play_small.ensures.drawn p c.requires.batch c.requires.claim) ring
    (begun_true o ring p t.history t.wire c.requires.all_true)

-- a round after them was refused
pub returns-in_err-play_rest-clause-played : goal.returns-in_err-play_rest-clause-played
returns-in_err-play_rest-clause-played g c =
    let N = g.EF.Field.number in
    let o = g.EF.Field.ops in
    let p = problem_in c.args.fitting.now.job.now in
    let b = batch_in c.args.batch.now in
    let t = begun_for N o p c.args.transcript.now c.args.sumcheck_data.now in
    let made = c.new_unpacked-left.ensures in
    let small = c.in_ok-play_small.ensures in
    let count : length (map N c.play_small.new.challenges.items) ≡ length b.grids = length-map c.play_small.new.challenges.items N ∙ small.counts.count in
    let rest = c.in_err-play_rest.ensures in
    plays_stopped _ _ c.from_residual-in_err-play_rest.result c.from_residual-in_err-play_rest.ensures.1
    (left_stops o N p b c.requires.batch (map N c.play_small.new.challenges.items) c.new_unpacked-left.result c.play_small.new.sum c.in_ok-evals.evals c.in_ok-evals.weights
    (bound_as o N b c.in_ok-evals.evals _ p.table _ _ (ap (λ xs k. g.EF.Algebra.embedding (entries g.F.Field.number xs k)) c.deref.ensures.value) (ap (map N) c.as_slice.ensures.value)
    c.in_ok-evals.ensures.evals)
    (bound_as o N b c.in_ok-evals.weights _ (combined_weight o b.claims) _ _ refl (ap (map N) c.as_slice.ensures.value) c.in_ok-evals.ensures.weights)
    made.variables made.evals made.weights (channel_of g.EF.ExtensionField.extension (driver_in c.args.transcript.now)) t.history (driver_in c.play_small.new.transcript).history t.wire
    (wire_in g.F.Field.number N c.play_small.new.sumcheck_data) (small.drawn p c.requires.batch c.requires.claim)
    (channel_of g.EF.ExtensionField.extension (driver_in c.play_small.new.transcript))
    (same_channel g.F.Field.ops.size small.continues.rules (ap (λ (k : BatchShape). k.pow_bits) small.continues.shape)) (made.basis ∙ sym c.requires.batch.basis) made.order
    (driver_in c.play_small.new.transcript) (driver_in c.play_rest.new.transcript) (small.counts.played ∙ sym count)
    (prover_state_over N (shown_of N c.play_rest.new.left c.play_rest.new.sum) c.play_rest.new.transcript c.play_rest.new.sumcheck_data) rest.left _ refl rest.rounds)

-- all were played
pub returns-clause-played : goal.returns-clause-played
returns-clause-played g c =
    let N = g.EF.Field.number in
    let o = g.EF.Field.ops in
    let p = problem_in c.args.fitting.now.job.now in
    let b = batch_in c.args.batch.now in
    let t = begun_for N o p c.args.transcript.now c.args.sumcheck_data.now in
    let made = c.new_unpacked-left.ensures in
    let small = c.in_ok-play_small.ensures in
    let count : length (map N c.play_small.new.challenges.items) ≡ length b.grids = length-map c.play_small.new.challenges.items N ∙ small.counts.count in
    let rest = c.in_ok-play_rest.ensures in
    left_played o N p b c.requires.batch (map N c.play_small.new.challenges.items) c.new_unpacked-left.result c.play_small.new.sum c.in_ok-evals.evals c.in_ok-evals.weights
    (bound_as o N b c.in_ok-evals.evals _ p.table _ _ (ap (λ xs k. g.EF.Algebra.embedding (entries g.F.Field.number xs k)) c.deref.ensures.value) (ap (map N) c.as_slice.ensures.value)
    c.in_ok-evals.ensures.evals)
    (bound_as o N b c.in_ok-evals.weights _ (combined_weight o b.claims) _ _ refl (ap (map N) c.as_slice.ensures.value) c.in_ok-evals.ensures.weights)
    made.variables made.evals made.weights (channel_of g.EF.ExtensionField.extension (driver_in c.args.transcript.now)) t.history (driver_in c.play_small.new.transcript).history t.wire
    (wire_in g.F.Field.number N c.play_small.new.sumcheck_data) (small.drawn p c.requires.batch c.requires.claim)
    (channel_of g.EF.ExtensionField.extension (driver_in c.play_small.new.transcript))
    (same_channel g.F.Field.ops.size small.continues.rules (ap (λ (k : BatchShape). k.pow_bits) small.continues.shape)) (made.basis ∙ sym c.requires.batch.basis) made.order
    (driver_in c.play_small.new.transcript) (driver_in c.play_rest.new.transcript) (small.counts.played ∙ sym count)
    (prover_state_over N (shown_of N c.play_rest.new.left c.play_rest.new.sum) c.play_rest.new.transcript c.play_rest.new.sumcheck_data) rest.left _ rest.rounds
