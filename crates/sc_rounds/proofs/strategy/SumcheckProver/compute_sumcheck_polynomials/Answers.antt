use Rattle.std.proofs.Common.{ap, ◌∙◌, map}
use Rattle.std.proofs.lemmas.Result.{IfOk-weaker}
use Rattle.sc_definitions.specs.Channels.{channel}
use Rattle.sc_transcript.specs.Data.{wire_in}
use Rattle.sc_rounds.specs.Provers.{held_shown}
use Rattle.sc_definitions.specs.ProverViews.{ProverView, setting_at, prover_state_at}
use Rattle.sc_transcript.specs.Batches.{Batch, batch_at}
use Rattle.sc_transcript.proofs.BatchLaws.{batch_as, holds_as}
use Rattle.sc_rounds.proofs.HeldLaws.{imaged_same}
use Rattle.sc_rounds.proofs.strategy.SumcheckProver.compute_sumcheck_polynomials.Goals as goal

-- a constraint was taken in, if there is one
pub returns-clause-batch : goal.returns-clause-batch
returns-clause-batch g c =
    let o = g.EF.Field.ops in
    let N = g.EF.Field.number in
    let R = (g.C.Challenger.party c.args.challenger.now).rules in
    let H = (g.C.Challenger.party c.args.challenger.now).history in
    let W = wire_in g.F.Field.number N in
    let at : ProverView → ProverView → Batch = λ p q.
    batch_at (setting_at (channel R g.EF.ExtensionField.extension g.F.Field.ops.size c.args.pow_bits) o p) (prover_state_at q H (W c.args.sumcheck_data.now))
    g.EF.ExtensionField.DEGREE c.args.folding_factor in
    let t = c.take_in_if_some.new.self.rounds in
    let taken = held_shown o N t.poly t.held t.sum in
    let u = c.play_batch.new.self in
    batch_as c.play_batch.result (map N) _ _ _ _
    (ap (at taken) (imaged_same taken) ∙ ap (λ p. at p p) c.take_in_if_some.ensures.shown)
    (ap (λ q. prover_state_at q (g.C.Challenger.party c.play_batch.new.challenger).history (W c.play_batch.new.sumcheck_data)) (imaged_same (held_shown o N u.poly u.held u.sum)))
    c.play_batch.ensures.batch

pub returns-clause-holds : goal.returns-clause-holds
returns-clause-holds g c =
    let o = g.EF.Field.ops in
    let N = g.EF.Field.number in
    let R = (g.C.Challenger.party c.args.challenger.now).rules in
    let H = (g.C.Challenger.party c.args.challenger.now).history in
    let W = wire_in g.F.Field.number N in
    let at : ProverView → ProverView → Batch = λ p q.
    batch_at (setting_at (channel R g.EF.ExtensionField.extension g.F.Field.ops.size c.args.pow_bits) o p) (prover_state_at q H (W c.args.sumcheck_data.now))
    g.EF.ExtensionField.DEGREE c.args.folding_factor in
    let t = c.take_in_if_some.new.self.rounds in
    let taken = held_shown o N t.poly t.held t.sum in
    IfOk-weaker c.play_batch.result _ _
    (λ rs. holds_as _ _ _ _ (map N rs) _
    (ap (at taken) (imaged_same taken) ∙ ap (λ p. at p p) c.take_in_if_some.ensures.shown) c.take_in_if_some.ensures.stored)
    c.play_batch.ensures.holds
