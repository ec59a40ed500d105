use Rattle.std.proofs.Common.{rules, ◌≡◌, length, map, Vec, Global, Ok, Err, refl, ap, sym, subst, ◌∙◌}
use Rattle.std.proofs.lemmas.List.{length-map}
use Rattle.sc_definitions.specs.Ring.{plus, times}
use Rattle.sc_definitions.specs.Channels.{empty_wire}
use Rattle.sc_definitions.specs.ProverViews.{ProverView, with_scaled, setting_at, prover_state_at}
use Rattle.sc_challenger.specs.Parties.{channel_by}
use Rattle.sc_commitments.specs.Matrices.{lists_in}
use Rattle.sc_rounds.specs.ProverViews.{shown_by}
use Rattle.sc_zk_definitions.specs.declared.prelude.ZkPrelude.TheVariants.{InheritedClaim}
use Rattle.sc_zk_definitions.specs.Masks.{masks_at, aux_after}
use Rattle.sc_zk_definitions.specs.MaskedTranscripts.{head}
use Rattle.sc_zk_definitions.specs.MaskedBatches.{MaskedBatch, head_of}
use Rattle.sc_zk_transcript.specs.Shapes.{shape_made, fixed_by, IsFit}
use Rattle.sc_zk_rounds.specs.declared.in_step.MaskedRun.{MaskedRun}
use Rattle.sc_zk_rounds.specs.Data.{sent_in}
use Rattle.sc_zk_rounds.specs.Handoffs.{batch_by, EndsMasked}
use Rattle.sc_zk_rounds.specs.Verified.{told_by}
use Rattle.sc_zk_rounds.specs.InStep.{run_in}
use Rattle.sc_zk_rounds.specs.Views.{residual_in, Coded, coded_in, handed_in, masks_under}
use Rattle.sc_zk_rounds.proofs.HalfLaws.{half-twice}
use Rattle.sc_zk_rounds.proofs.InStepLaws.{copied-batch, falls-out, verifier-stops, verifier-accepts, steps-through}
use Rattle.sc_zk_rounds.proofs.in_step.masked_in_step.Goals as goal

-- the prover's refusal: the verifier has not begun
pub returns-in_err-handoff-clause-steps : goal.returns-in_err-handoff-clause-steps
returns-in_err-handoff-clause-steps g c =
    let o = g.EF.Field.ops in
    let N = g.EF.Field.number in
    let P = g.C.Challenger.party in
    let E = g.EF.ExtensionField.extension in
    let size = g.F.Field.ops.size in
    let shown = shown_by c.args.prover in
    let p = P c.args.challenger.now in
    let m = masks_under g.Enc.ZkEncoding g.M.Mmcs c.args.encoding.now c.args.mmcs.now (coded_in N c.args.masks.items c.args.randomness.items) (N c.args.aux_claim) in
    let b : MaskedBatch = batch_by p E size c.args.pow_bits o shown m in
    let same = copied-batch p (P c.in_ok-copy.copy) E size c.args.pow_bits o shown m c.in_ok-copy.ensures.rules c.in_ok-copy.ensures.history in
    let handed = handed_in residual_in N in
    let h = (P c.into_zk_sumcheck_with.new.challenger).history in
    let sent = sent_in g.F.Field.number N c.into_zk_sumcheck_with.new.zk_data in
    falls-out with_scaled g.F.Field.number (run_in g.F.Field.number N) handed b h sent c.into_zk_sumcheck_with.new.zk_data.pow_witnesses.items c.from_residual-in_err-handoff.result c.in_err-handoff.field-0.0
    (λ x. g.met.F.Field.number_below x) refl (search rules) (subst (λ (x : MaskedBatch). EndsMasked handed x h sent (Err c.in_err-handoff.field-0.0)) same c.in_err-handoff.ensures.batch)

-- the verifier's refusal: memory ran out
pub returns-in_err-replayed-clause-steps : goal.returns-in_err-replayed-clause-steps
returns-in_err-replayed-clause-steps g c =
    let o = g.EF.Field.ops in
    let N = g.EF.Field.number in
    let P = g.C.Challenger.party in
    let E = g.EF.ExtensionField.extension in
    let size = g.F.Field.ops.size in
    let shown = shown_by c.args.prover in
    let p = P c.args.challenger.now in
    let m = masks_under g.Enc.ZkEncoding g.M.Mmcs c.args.encoding.now c.args.mmcs.now (coded_in N c.args.masks.items c.args.randomness.items) (N c.args.aux_claim) in
    let b : MaskedBatch = batch_by p E size c.args.pow_bits o shown m in
    let same = copied-batch p (P c.in_ok-copy.copy) E size c.args.pow_bits o shown m c.in_ok-copy.ensures.rules c.in_ok-copy.ensures.history in
    let handed = handed_in residual_in N in
    let h = (P c.into_zk_sumcheck_with.new.challenger).history in
    let sent = sent_in g.F.Field.number N c.into_zk_sumcheck_with.new.zk_data in
    let ends = subst (λ (x : MaskedBatch). EndsMasked handed x h sent (Ok c.in_ok-handoff.handoff)) same c.in_ok-handoff.ensures.batch in
    let rs = map N c.in_ok-handoff.handoff.randomness in
    let shape = shape_made InheritedClaim c.len-rounds.result c.message_len.result c.args.pow_bits in
    let wanted = shape_made InheritedClaim (length c.args.masks.items) m.mask_length c.args.pow_bits in
    let made : shape ≡ wanted =
    ap (λ n. shape_made InheritedClaim n c.message_len.result c.args.pow_bits) (c.len-rounds.ensures ∙ c.args.masks.ok.0)
    ∙ ap (λ l. shape_made InheritedClaim (length c.args.masks.items) l c.args.pow_bits) c.message_len.ensures in
    let is = ap fixed_by made ∙ ap (λ n. fixed_by (shape_made InheritedClaim n m.mask_length c.args.pow_bits)) (sym (length-map c.args.masks.items _)) in
    let commitment = λ (x : Coded). g.M.Mmcs.words_of c.args.mmcs.now (g.M.Mmcs.commitment_of c.args.mmcs.now (g.Enc.ZkEncoding.encoded c.args.encoding.now x.masks x.randomness)) in
    let lists = c.in_ok-handoff.ensures.lists in
    let words = ap (g.M.Mmcs.words_of c.args.mmcs.now) c.in_ok-handoff.ensures.oracle.commitment ∙ ap (λ (v : Vec (Vec _ Global) Global). commitment (coded_in N v.items c.in_ok-handoff.handoff.mask_randomness.items)) lists.0
    ∙ ap (λ (v : Vec (Vec _ Global) Global). commitment (coded_in N c.args.masks.items v.items)) lists.1 in
    let claims = c.add-claim.ensures ∙ ap (λ n. plus o n (N c.args.aux_claim)) c.claimed_sum.ensures.number in
    let H = head (N c.add-claim.result) (g.M.Mmcs.words_of c.args.mmcs.now c.in_ok-handoff.handoff.mask_oracle.0) sent.mu in
    let heads : H ≡ head_of b =
    ap (λ n. head n (g.M.Mmcs.words_of c.args.mmcs.now c.in_ok-handoff.handoff.mask_oracle.0) sent.mu) claims
    ∙ ap (λ w. head (plus o shown.claim (N c.args.aux_claim)) w sent.mu) words ∙ ap (λ n. head (plus o shown.claim (N c.args.aux_claim)) m.words n) ends.total in
    let s = setting_at (channel_by p E size c.args.pow_bits) o shown in
    let t = prover_state_at shown p.history empty_wire in
    let ring = g.met.EF.Field.is_field.ring in
    verifier-stops (told_by N) (run_in g.F.Field.number N) N c.args.masks.items InheritedClaim s t m g.F.Field.ops shape ends.after rs H sent.wire (P c.verify_claim.new.challenger).history
    c.from_residual-in_err-replayed.result c.in_err-replayed.field-0.0 refl is ends.left.played heads ends.wire ring (subst (IsFit g.F.Field.ops) (sym made) c.requires.fit) refl c.requires.coded.masks
    (search rules) c.in_err-replayed.ensures.left

-- both are in step
pub returns-clause-steps : goal.returns-clause-steps
returns-clause-steps g c =
    let o = g.EF.Field.ops in
    let N = g.EF.Field.number in
    let P = g.C.Challenger.party in
    let E = g.EF.ExtensionField.extension in
    let size = g.F.Field.ops.size in
    let shown = shown_by c.args.prover in
    let p = P c.args.challenger.now in
    let m = masks_under g.Enc.ZkEncoding g.M.Mmcs c.args.encoding.now c.args.mmcs.now (coded_in N c.args.masks.items c.args.randomness.items) (N c.args.aux_claim) in
    let b : MaskedBatch = batch_by p E size c.args.pow_bits o shown m in
    let same = copied-batch p (P c.in_ok-copy.copy) E size c.args.pow_bits o shown m c.in_ok-copy.ensures.rules c.in_ok-copy.ensures.history in
    let handed = handed_in residual_in N in
    let h = (P c.into_zk_sumcheck_with.new.challenger).history in
    let sent = sent_in g.F.Field.number N c.into_zk_sumcheck_with.new.zk_data in
    let ends = subst (λ (x : MaskedBatch). EndsMasked handed x h sent (Ok c.in_ok-handoff.handoff)) same c.in_ok-handoff.ensures.batch in
    let rs = map N c.in_ok-handoff.handoff.randomness in
    let shape = shape_made InheritedClaim c.len-rounds.result c.message_len.result c.args.pow_bits in
    let wanted = shape_made InheritedClaim (length c.args.masks.items) m.mask_length c.args.pow_bits in
    let made : shape ≡ wanted =
    ap (λ n. shape_made InheritedClaim n c.message_len.result c.args.pow_bits) (c.len-rounds.ensures ∙ c.args.masks.ok.0)
    ∙ ap (λ l. shape_made InheritedClaim (length c.args.masks.items) l c.args.pow_bits) c.message_len.ensures in
    let is = ap fixed_by made ∙ ap (λ n. fixed_by (shape_made InheritedClaim n m.mask_length c.args.pow_bits)) (sym (length-map c.args.masks.items _)) in
    let commitment = λ (x : Coded). g.M.Mmcs.words_of c.args.mmcs.now (g.M.Mmcs.commitment_of c.args.mmcs.now (g.Enc.ZkEncoding.encoded c.args.encoding.now x.masks x.randomness)) in
    let lists = c.in_ok-handoff.ensures.lists in
    let words = ap (g.M.Mmcs.words_of c.args.mmcs.now) c.in_ok-handoff.ensures.oracle.commitment ∙ ap (λ (v : Vec (Vec _ Global) Global). commitment (coded_in N v.items c.in_ok-handoff.handoff.mask_randomness.items)) lists.0
    ∙ ap (λ (v : Vec (Vec _ Global) Global). commitment (coded_in N c.args.masks.items v.items)) lists.1 in
    let claims = c.add-claim.ensures ∙ ap (λ n. plus o n (N c.args.aux_claim)) c.claimed_sum.ensures.number in
    let H = head (N c.add-claim.result) (g.M.Mmcs.words_of c.args.mmcs.now c.in_ok-handoff.handoff.mask_oracle.0) sent.mu in
    let heads : H ≡ head_of b =
    ap (λ n. head n (g.M.Mmcs.words_of c.args.mmcs.now c.in_ok-handoff.handoff.mask_oracle.0) sent.mu) claims
    ∙ ap (λ w. head (plus o shown.claim (N c.args.aux_claim)) w sent.mu) words ∙ ap (λ n. head (plus o shown.claim (N c.args.aux_claim)) m.words n) ends.total in
    let s = setting_at (channel_by p E size c.args.pow_bits) o shown in
    let t = prover_state_at shown p.history empty_wire in
    let ring = g.met.EF.Field.is_field.ring in
    let after = ends.after in
    let run : MaskedRun g.row.F.Denot g.row.EF.Denot = record {
      zk_data = c.into_zk_sumcheck_with.new.zk_data;
      randomness = c.in_ok-replayed.replayed.randomness;
      eps = c.in_ok-replayed.replayed.eps;
      claimed_residual = c.in_ok-replayed.replayed.claimed_residual;
      scaled = c.claimed_sum-2.result;
      carried = c.mul.result;
      mask_residual = c.mask_residual.result;
    } in
    let half = half-twice g.F.Field.ops o g.EF.Algebra.embedding g.met.F.Field.is_field g.met.EF.Field.is_field g.met.EF.Algebra.embeds c.requires.fit.odd in
    let taken = verifier-accepts (told_by N) InheritedClaim s t m g.F.Field.ops shape after rs H sent.wire (P c.verify_claim.new.challenger).history c.in_ok-replayed.replayed refl is ends.left.played heads ends.wire ring half
    c.in_ok-replayed.ensures.left in
    steps-through b after rs (told_by N c.in_ok-replayed.replayed) (P c.verify_claim.new.challenger).history (run_in g.F.Field.number N run) ring ends.left.played taken refl refl refl ends.total ends.wire
    (c.claimed_sum-2.ensures.number ∙ ap (λ (x : ProverView). x.claim) ends.left.shown)
    (c.mul.ensures ∙ ap (times o (N c.in_ok-replayed.replayed.eps)) (c.aux_after.ensures ∙ ap (aux_after o b.half b.aux) (c.len-rounds.ensures ∙ c.args.masks.ok.0 ∙ sym (length-map c.args.masks.items _))))
    (c.mask_residual.ensures ∙ ap (λ xs. masks_at o xs (map N c.as_slice.result.now)) (ap (lists_in N) (c.deref.ensures.value ∙ ap (λ (v : Vec (Vec _ Global) Global). v.items) lists.0)) ∙ ap (λ xs. masks_at o m.masks (map N xs)) c.as_slice.ensures)
