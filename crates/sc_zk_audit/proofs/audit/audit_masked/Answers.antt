use Rattle.std.proofs.Common.{◌≡◌, ◌<◌, ◌≤◌, None, Err, length, sym, ◌∙◌, ap, subst, arith}
use Rattle.std.proofs.lemmas.List.{length-map}
use Rattle.std.proofs.lemmas.List.Elements.{All-map}
use Rattle.sc_definitions.specs.Ring.{plus}
use Rattle.sc_definitions.specs.ProverViews.{ProverView}
use Rattle.sc_commitments.specs.Matrices.{numbers_in}
use Rattle.sc_zk_rounds.specs.Handoffs.{batch_over}
use Rattle.sc_zk_rounds.specs.InStep.{MaskedFigures, StepsThrough, StaysInStep, run_in}
use Rattle.sc_zk_rounds.proofs.HalfLaws.{two-kept}
use Rattle.sc_zk_audit.specs.MaskedAudits.{GivesMasked}
use Rattle.sc_zk_audit.specs.MaskedCases.{MaskedAsked}
use Rattle.sc_zk_audit.specs.MaskedJobs.{job_masks, masked_asked}
use Rattle.sc_zk_audit.specs.MaskedRefusals.{masked_refusal}
use Rattle.sc_zk_audit.specs.MaskedReports.{masked_answer}
use Rattle.sc_zk_audit.proofs.AnswerLaws.{stepped-left, stepped-answer, broken-answer}
use Rattle.sc_zk_audit.proofs.RefusalLaws.{refusal-same, half-halves}
use Rattle.sc_zk_audit.proofs.audit.audit_masked.Goals as goal

-- the rounds were played and replayed
pub returns-in-Ok-clause-answer : goal.returns-in-Ok-clause-answer
returns-in-Ok-clause-answer g c =
    let N = g.EF.Field.number in
    let o = g.EF.Field.ops in
    let job = c.args.job in
    let party = g.C.Challenger.party c.args.challenger.now in
    let q : MaskedAsked = masked_asked job (job_masks g.Enc.ZkEncoding g.M.Mmcs c.args.encoding.now c.args.mmcs.now job) party in
    let count : c.len.result ≡ length q.masks.masks = c.len.ensures ∙ job.masks.ok.0 ∙ sym (length-map job.masks.items (numbers_in N)) in
    let none : masked_refusal q ≡ None =
    sym (refusal-same q _ _ _ _ job.table.ok.0 c.max_bits.ensures c.message_len.ensures count) ∙ c.in_ok-prover.ensures.passed in
    let few : length q.masks.masks ≤ q.problem.variables = omega (arith, count, c.in_ok-prover.ensures.rounds) in
    let f : MaskedFigures = run_in g.F.Field.number N c.in-Ok.run' in
    let h' = (g.C.Challenger.party c.masked_in_step.new.challenger).history in
    let shown = c.in_ok-prover.ensures.shown in
    let steps : StepsThrough (batch_over q.channel o _ q.history q.masks) h' f =
    subst (λ (s : ProverView). StepsThrough (batch_over q.channel o s q.history q.masks) h' f) shown c.in-Ok.ensures.steps in
    let odd = two-kept g.F.Field.ops o g.EF.Algebra.embedding g.met.F.Field.is_field g.met.EF.Field.is_field g.met.EF.Algebra.embeds c.in_ok-prover.ensures.fit.odd in
    stepped-answer q none few f h' steps g.met.EF.Field.is_field.ring (half-halves o g.met.EF.Field.is_field odd) (N c.add-claim.result)
    (c.add-claim.ensures ∙ ap (λ n. plus o n (N job.aux)) (c.claimed_sum.ensures.number ∙ ap (λ (s : ProverView). s.claim) shown))
    (All-map (λ n. n < g.F.Field.ops.size) g.F.Field.number _ (λ k d low. g.met.F.Field.number_below _))

pub returns-in-Ok-clause-history : goal.returns-in-Ok-clause-history
returns-in-Ok-clause-history g c =
    let N = g.EF.Field.number in
    let o = g.EF.Field.ops in
    let job = c.args.job in
    let party = g.C.Challenger.party c.args.challenger.now in
    let q : MaskedAsked = masked_asked job (job_masks g.Enc.ZkEncoding g.M.Mmcs c.args.encoding.now c.args.mmcs.now job) party in
    let count : c.len.result ≡ length q.masks.masks = c.len.ensures ∙ job.masks.ok.0 ∙ sym (length-map job.masks.items (numbers_in N)) in
    let none : masked_refusal q ≡ None =
    sym (refusal-same q _ _ _ _ job.table.ok.0 c.max_bits.ensures c.message_len.ensures count) ∙ c.in_ok-prover.ensures.passed in
    let few : length q.masks.masks ≤ q.problem.variables = omega (arith, count, c.in_ok-prover.ensures.rounds) in
    let f : MaskedFigures = run_in g.F.Field.number N c.in-Ok.run' in
    let h' = (g.C.Challenger.party c.masked_in_step.new.challenger).history in
    stepped-left q none few f h'
    (subst (λ (s : ProverView). StepsThrough (batch_over q.channel o s q.history q.masks) h' f) c.in_ok-prover.ensures.shown c.in-Ok.ensures.steps) (N c.add-claim.result)

-- they could not be played
pub returns-in-Err-clause-answer : goal.returns-in-Err-clause-answer
returns-in-Err-clause-answer g c =
    let N = g.EF.Field.number in
    let o = g.EF.Field.ops in
    let job = c.args.job in
    let party = g.C.Challenger.party c.args.challenger.now in
    let q : MaskedAsked = masked_asked job (job_masks g.Enc.ZkEncoding g.M.Mmcs c.args.encoding.now c.args.mmcs.now job) party in
    let count : c.len.result ≡ length q.masks.masks = c.len.ensures ∙ job.masks.ok.0 ∙ sym (length-map job.masks.items (numbers_in N)) in
    let none : masked_refusal q ≡ None =
    sym (refusal-same q _ _ _ _ job.table.ok.0 c.max_bits.ensures c.message_len.ensures count) ∙ c.in_ok-prover.ensures.passed in
    let few : length q.masks.masks ≤ q.problem.variables = omega (arith, count, c.in_ok-prover.ensures.rounds) in
    let h' = (g.C.Challenger.party c.masked_in_step.new.challenger).history in
    let view = run_in g.F.Field.number N in
    subst (λ e. GivesMasked (masked_answer q) (Err e)) (sym c.run_refusal.ensures)
    (broken-answer q none few view c.in-Err.error h'
    (subst (λ (s : ProverView). StaysInStep view (batch_over q.channel o s q.history q.masks) (Err c.in-Err.error) h') c.in_ok-prover.ensures.shown c.in-Err.ensures.steps))
