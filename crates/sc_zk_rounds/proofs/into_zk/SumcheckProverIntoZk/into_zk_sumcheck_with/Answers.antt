use Rattle.std.proofs.Common.{rules, map, Ok, refl, ap, subst, ◌∙◌}
use Rattle.sc_challenger.specs.Parties.{channel_by}
use Rattle.sc_commitments.specs.Matrices.{lists_in}
use Rattle.sc_rounds.specs.ProverViews.{shown_by, stored_by}
use Rattle.sc_zk_definitions.specs.MaskedBatches.{MaskedBatch}
use Rattle.sc_zk_transcript.specs.declared.shape.ZkSumcheckShape.{ZkSumcheckShape}
use Rattle.sc_zk_rounds.specs.Data.{masked_wire_in, sent_in}
use Rattle.sc_zk_rounds.specs.Handoffs.{EndsMasked}
use Rattle.sc_zk_rounds.specs.Views.{residual_in, Coded, coded_in, handed_in, masks_under, player, stands_at, masks_for, batch_of}
use Rattle.sc_zk_rounds.proofs.MaskedBatchLaws.{same-batch, hands-on, ends-before, ends-broken, shape-of}
use Rattle.sc_zk_rounds.proofs.into_zk.SumcheckProverIntoZk.into_zk_sumcheck_with.Goals as goal

-- nothing is committed to
pub returns-in_err-committed-clause-batch : goal.returns-in_err-committed-clause-batch
returns-in_err-committed-clause-batch g c = ends-before _ _ _ _ c.from_residual.result (search rules) refl c.requires.fresh.wire

-- there is no room for the challenges
pub returns-in_err-challenges-clause-batch : goal.returns-in_err-challenges-clause-batch
returns-in_err-challenges-clause-batch g c = ends-before _ _ _ _ c.from_residual-in_err-challenges.result (search rules) refl c.requires.fresh.wire

pub play_batch-requires-clause-shape : goal.play_batch-requires-clause-shape
play_batch-requires-clause-shape g c =
    shape-of g.F.Field.ops c.deref-3.result.now c.args.masks.items c.new_inherited-shape.result c.new_inherited-shape.ensures c.deref-3.ensures.value (c.len-2.ensures ∙ c.args.masks.ok.0)
    c.message_len.ensures c.requires.fit c.requires.coded.masks

-- the batch is broken off
pub returns-in_err-eps-clause-batch : goal.returns-in_err-eps-clause-batch
returns-in_err-eps-clause-batch g c =
    let o = g.EF.Field.ops in
    let N = g.EF.Field.number in
    let p = c.args.self in
    let party = g.C.Challenger.party c.args.challenger.now in
    let made = c.new_inherited-shape.ensures in
    let coded = coded_in N c.args.masks.items c.args.randomness.items in
    let wanted = masks_under g.Enc.ZkEncoding g.M.Mmcs c.args.encoding.now c.args.mmcs.now coded (N c.args.aux_claim) in
    let committed = c.in_ok-committed.ensures in
    let commitment = λ (x : Coded). g.M.Mmcs.commitment_of c.args.mmcs.now (g.Enc.ZkEncoding.encoded c.args.encoding.now x.masks x.randomness) in
    let same = same-batch party.rules g.EF.ExtensionField.extension g.F.Field.ops.size o (shown_by p) party.history (N c.args.aux_claim) (ap (λ (s : ZkSumcheckShape). s.prelude) made) (ap (λ (s : ZkSumcheckShape). s.pow_bits) made) c.requires.fresh.wire
    (ap (λ (s : ZkSumcheckShape). s.ell_zk) made ∙ c.message_len.ensures) (ap (lists_in N) c.deref-3.ensures.value)
    (c.deref-4.ensures.value ∙ committed.words
    ∙ ap (g.M.Mmcs.words_of c.args.mmcs.now) (committed.oracle.commitment ∙ ap (λ vs. commitment (coded_in N vs c.deref-2.result.now)) c.deref.ensures.value
    ∙ ap (λ vs. commitment (coded_in N c.args.masks.items vs)) c.deref-2.ensures.value)) in
    let shape = c.new_inherited-shape.result in
    let b : MaskedBatch = batch_of g.F.Field.ops o g.EF.ExtensionField.extension shape (player g.F.Field.number N party (shown_by p) c.args.zk_data.now) (masks_for N shape c.deref-3.result.now c.deref-4.result.now c.args.aux_claim) in
    let after = stands_at (player g.F.Field.number N (g.C.Challenger.party c.play_batch.new.challenger) (shown_by c.play_batch.new.prover) c.play_batch.new.zk_data) in
    let rs = map N c.play_batch.new.challenges.items in
    let sent = sent_in g.F.Field.number N c.play_batch.new.zk_data in
    let handed = handed_in residual_in N in
    subst (λ b. EndsMasked handed b after.history sent c.from_residual-in_err-eps.result) same
    (ends-broken handed N b after rs sent c.from_residual-in_err-eps.result c.in_err-eps.field-0.0 (search rules) c.in_err-eps.ensures.plays refl)

-- it is played, and handed on
pub returns-clause-batch : goal.returns-clause-batch
returns-clause-batch g c =
    let o = g.EF.Field.ops in
    let N = g.EF.Field.number in
    let p = c.args.self in
    let party = g.C.Challenger.party c.args.challenger.now in
    let made = c.new_inherited-shape.ensures in
    let coded = coded_in N c.args.masks.items c.args.randomness.items in
    let wanted = masks_under g.Enc.ZkEncoding g.M.Mmcs c.args.encoding.now c.args.mmcs.now coded (N c.args.aux_claim) in
    let committed = c.in_ok-committed.ensures in
    let commitment = λ (x : Coded). g.M.Mmcs.commitment_of c.args.mmcs.now (g.Enc.ZkEncoding.encoded c.args.encoding.now x.masks x.randomness) in
    let same = same-batch party.rules g.EF.ExtensionField.extension g.F.Field.ops.size o (shown_by p) party.history (N c.args.aux_claim) (ap (λ (s : ZkSumcheckShape). s.prelude) made) (ap (λ (s : ZkSumcheckShape). s.pow_bits) made) c.requires.fresh.wire
    (ap (λ (s : ZkSumcheckShape). s.ell_zk) made ∙ c.message_len.ensures) (ap (lists_in N) c.deref-3.ensures.value)
    (c.deref-4.ensures.value ∙ committed.words
    ∙ ap (g.M.Mmcs.words_of c.args.mmcs.now) (committed.oracle.commitment ∙ ap (λ vs. commitment (coded_in N vs c.deref-2.result.now)) c.deref.ensures.value
    ∙ ap (λ vs. commitment (coded_in N c.args.masks.items vs)) c.deref-2.ensures.value)) in
    let shape = c.new_inherited-shape.result in
    let b : MaskedBatch = batch_of g.F.Field.ops o g.EF.ExtensionField.extension shape (player g.F.Field.number N party (shown_by p) c.args.zk_data.now) (masks_for N shape c.deref-3.result.now c.deref-4.result.now c.args.aux_claim) in
    let after = stands_at (player g.F.Field.number N (g.C.Challenger.party c.play_batch.new.challenger) (shown_by c.play_batch.new.prover) c.play_batch.new.zk_data) in
    let rs = map N c.play_batch.new.challenges.items in
    let sent = sent_in g.F.Field.number N c.play_batch.new.zk_data in
    let handed = handed_in residual_in N in
    let now = shown_by c.play_batch.new.prover in
    let plays = c.in_ok-eps.ensures.plays in
    subst (λ b. EndsMasked handed b after.history sent (Ok (record {
      residual_prover = c.scale_weights_and_claim.new.self;
      randomness = c.new.result;
      eps = c.in_ok-eps.eps;
      mask_messages = c.args.masks;
      mask_randomness = c.args.randomness;
      mask_oracle = c.in_ok-committed.committed.oracle;
    }))) same (record {
      after = after;
      left = hands-on (channel_by party g.EF.ExtensionField.extension g.F.Field.ops.size shape.pow_bits) o (shown_by p) now (shown_by c.scale_weights_and_claim.new.self) b after.history
          (masked_wire_in g.F.Field.number N c.play_batch.new.zk_data) rs (map N c.new.result) (N c.in_ok-eps.eps) (stored_by c.scale_weights_and_claim.new.self).held refl c.in_ok-eps.ensures.form plays.0
          (ap (map N) c.new.ensures) plays.1 c.scale_weights_and_claim.ensures.scaled c.scale_weights_and_claim.ensures.settled;
      history = refl;
      wire = refl;
      total = c.in_ok-eps.ensures.total;
    })
