use Rattle.std.proofs.Common.{rules, ◌≡◌, ◌<◌, All, length, sym, ap, ◌∙◌, subst}
use Rattle.sc_definitions.specs.Statements.{batched_claim}
use Rattle.sc_layout.specs.Openings.{statements_of}
use Rattle.sc_zk_definitions.specs.MaskedTranscripts.{head}
use Rattle.sc_zk_transcript.specs.Shapes.{fixed_by}
use Rattle.sc_zk_rounds.specs.Data.{masked_wire_in}
use Rattle.sc_zk_rounds.specs.Verified.{claim_by, told_by, LeavesMaskedReplay}
use Rattle.sc_zk.specs.Recorded.{recorded_in, recorded_claim}
use Rattle.sc_zk.proofs.RecordedLaws.{replay-as, stops-before}
use Rattle.sc_zk.proofs.verifier.ZkVerifier.into_sumcheck.Goals as goal

pub replay_begun-requires-clause-words : goal.replay_begun-requires-clause-words
replay_begun-requires-clause-words g c =
    record {
      count = ap length c.deref.ensures.value ∙ c.in_ok-words.ensures.count;
      below = subst (All (λ w. w < 16)) (sym c.deref.ensures.value) c.in_ok-words.ensures.below;
    }

pub returns-clause-left : goal.returns-clause-left
returns-clause-left g c =
    let e = g.EF.Field in
    let E = g.EF.ExtensionField.extension in
    let b = g.F.Field.ops in
    let p = g.C.Challenger.party c.args.challenger.now in
    let v = recorded_in c.args.self in
    let mu = e.number c.args.zk_data.now.mu_tilde in
    let came = masked_wire_in g.F.Field.number e.number c.args.zk_data.now in
    let ws = g.M.Mmcs.words_of c.args.mmcs.now c.args.mask_commitment.now in
    let h = (g.C.Challenger.party c.replay_begun.new.challenger).history in
    let shape = c.new_batching-shape.result in
    let claim : e.number c.sum-claim.result ≡ recorded_claim e.ops p E (fixed_by shape) v =
    c.sum-claim.ensures ∙ ap (λ a. batched_claim e.ops a 0 (statements_of v.recorded)) c.in_ok-alpha.ensures.drawn in
    subst (λ s. LeavesMaskedReplay (told_by e.number) (claim_by p b e.ops E s (head (recorded_claim e.ops p E (fixed_by s) v) ws mu) came) c.replay_begun.result h) c.new_batching-shape.ensures
    (replay-as (told_by e.number) b e.ops E shape mu p.history h came c.replay_begun.result _ p.rules (e.number c.sum-claim.result) _ _ ws c.in_ok-alpha.ensures.rules claim
    (c.deref.ensures.value ∙ c.in_ok-words.ensures.words)
    (c.replay_begun.ensures.left p.history (c.in_ok-alpha.ensures.begins (e.number c.sum-claim.result))))

-- memory ran out before the masks
pub returns-in_err-alpha-clause-left : goal.returns-in_err-alpha-clause-left
returns-in_err-alpha-clause-left g c =
    let e = g.EF.Field in
    let E = g.EF.ExtensionField.extension in
    let b = g.F.Field.ops in
    let p = g.C.Challenger.party c.args.challenger.now in
    let v = recorded_in c.args.self in
    let mu = e.number c.args.zk_data.now.mu_tilde in
    let came = masked_wire_in g.F.Field.number e.number c.args.zk_data.now in
    let ws = g.M.Mmcs.words_of c.args.mmcs.now c.args.mask_commitment.now in
    let h = (g.C.Challenger.party c.begin_recorded.new.challenger).history in
    let shape = c.new_batching-shape.result in
    let claim = recorded_claim e.ops p E (fixed_by shape) v in
    subst (λ s. LeavesMaskedReplay (told_by e.number) (claim_by p b e.ops E s (head (recorded_claim e.ops p E (fixed_by s) v) ws mu) came) c.from_residual-in_err-alpha.result h) c.new_batching-shape.ensures
    (stops-before (told_by e.number) (claim_by p b e.ops E shape (head claim ws mu) came) c.from_residual-in_err-alpha.result h (search rules) c.in_ok-check_came.ensures.ok (c.in_err-alpha.ensures.begins claim))
