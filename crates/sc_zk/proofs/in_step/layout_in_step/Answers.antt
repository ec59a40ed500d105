use Rattle.std.proofs.Common.{rules, ◌≡◌, length, map, Ok, Err, refl, ap, sym, subst, ◌∙◌}
use Rattle.std.proofs.lemmas.List.{length-map}
use Rattle.sc_definitions.specs.ProverViews.{ProverView}
use Rattle.sc_commitments.specs.Draws.{Drawn, masks_from}
use Rattle.sc_commitments.proofs.CodeLaws.{masks-drawn-refused}
use Rattle.sc_commitments.specs.Matrices.{lists_in}
use Rattle.sc_zk_definitions.specs.declared.prelude.ZkPrelude.TheVariants.{RecordedClaims}
use Rattle.sc_zk_definitions.specs.Masks.{masks_at}
use Rattle.sc_zk_definitions.specs.MaskedTranscripts.{head}
use Rattle.sc_zk_definitions.specs.MaskedBatches.{MaskedBatch, head_of}
use Rattle.sc_zk_transcript.specs.Shapes.{fixed_by}
use Rattle.sc_zk_rounds.specs.declared.in_step.MaskedRun.{MaskedRun}
use Rattle.sc_zk_rounds.specs.Data.{sent_in}
use Rattle.sc_zk_rounds.specs.Heads.{recorded_shape}
use Rattle.sc_zk_rounds.specs.Handoffs.{AskedMasks, EndsMaskedBy}
use Rattle.sc_zk_rounds.specs.Verified.{told_by, claim_by, LeavesMaskedReplay}
use Rattle.sc_zk_rounds.specs.InStep.{StaysInStep, run_in}
use Rattle.sc_zk_rounds.specs.Views.{residual_in, handed_in, masks_under, stands_at, setting_of, terms}
use Rattle.sc_zk_rounds.proofs.HalfLaws.{half-twice}
use Rattle.sc_zk_rounds.proofs.InStepLaws.{falls-out, verifier-stops, verifier-accepts, steps-through}
use Rattle.sc_zk_layout.specs.Grids.{with_side_scaled}
use Rattle.sc_zk_layout.specs.Provers.{layout_in, encoding_in, scheme_in}
use Rattle.sc_zk_layout.specs.Recorded.{recorded_batch, recorded_player}
use Rattle.sc_zk.specs.Recorded.{recorded_in, recorded_claim}
use Rattle.sc_zk.proofs.LayoutLaws.{no-masks-drawn, copied-recorded, claim-same, nothing-carried, scaled-claim}
use Rattle.sc_zk.proofs.in_step.layout_in_step.Goals as goal

-- the prover's refusal: the verifier has not begun
pub returns-in_err-handoff-clause-steps : goal.returns-in_err-handoff-clause-steps
returns-in_err-handoff-clause-steps g c recorded =
    let N = g.EF.Field.number in
    let B = g.F.Field.number in
    let P = g.C.Challenger.party in
    let l = g.L.Layout.laid (layout_in c.args.prover) in
    let shape = recorded_shape l.folding (g.Enc.ZkEncoding.message_length (encoding_in c.args.prover)) c.args.pow_bits in
    let same = copied-recorded g.F.Field.ops g.EF.Field.ops g.EF.ExtensionField.extension shape (P c.args.challenger.now) (P c.in_ok-copy.copy) l _ c.in_ok-copy.ensures.rules c.in_ok-copy.ensures.history in
    let handed = handed_in residual_in N in
    let h = (P c.into_sumcheck.new.challenger).history in
    let sent = sent_in B N c.into_sumcheck.new.zk_data in
    let e = c.in_err-handoff.field-0.0 in
    falls-out with_side_scaled B (run_in B N) handed _ h sent c.into_sumcheck.new.zk_data.pow_witnesses.items c.from_residual-in_err-handoff.result e
    (λ x. g.met.F.Field.number_below x) refl (search rules) (subst (λ (x : MaskedBatch). EndsMaskedBy with_side_scaled handed x h sent (Err e)) same c.in_err-handoff.ensures.batch)

-- the verifier's refusal: memory ran out
pub returns-in_err-replayed-clause-steps : goal.returns-in_err-replayed-clause-steps
returns-in_err-replayed-clause-steps g c recorded =
    let failed : c.from_residual-in_err-replayed.result ≡ Err c.in_err-replayed.field-0.0 = search rules in
    let o = g.EF.Field.ops in
    let base = g.F.Field.ops in
    let N = g.EF.Field.number in
    let B = g.F.Field.number in
    let P = g.C.Challenger.party in
    let E = g.EF.ExtensionField.extension in
    let z = g.Enc.ZkEncoding in
    let mm = g.M.Mmcs in
    let p = P c.args.challenger.now in
    let l = g.L.Layout.laid (layout_in c.args.prover) in
    let enc = encoding_in c.args.prover in
    let scheme = scheme_in c.args.prover in
    let ell = z.message_length enc in
    let bits = c.args.pow_bits in
    let shape = recorded_shape l.folding ell bits in
    let v = recorded_in c.args.verifier in
    let hand = c.in_ok-handoff.handoff in
    let told = c.in_ok-handoff.ensures in
    let under : Drawn → AskedMasks = λ d. masks_under z mm enc scheme (record { masks = d.masks; randomness = d.randomness }) 0 in
    let before : Drawn = record { masks = lists_in N hand.mask_messages.items; randomness = lists_in N hand.mask_randomness.items; left = g.G.Rng.stream c.into_sumcheck.new.rng } in
    let draws : Drawn = masks_from (z.message_from enc) (z.randomness_from enc) l.folding (g.G.Rng.stream c.args.rng.now) in
    let drawn : before ≡ draws = told.drawn in
    let m = under before in
    let b : MaskedBatch = recorded_batch base o E shape p l m in
    let handed = handed_in residual_in N in
    let sent = sent_in B N c.into_sumcheck.new.zk_data in
    let Ends : MaskedBatch → Type 0 = λ x. EndsMaskedBy with_side_scaled handed x (P c.into_sumcheck.new.challenger).history sent (Ok hand) in
    let copied = subst Ends (copied-recorded base o E shape p (P c.in_ok-copy.copy) l (under draws) c.in_ok-copy.ensures.rules c.in_ok-copy.ensures.history) told.batch in
    let ends : Ends b = subst (λ x. Ends (recorded_batch base o E shape p l x)) (sym (ap under drawn)) copied in
    let words = mm.words_of c.args.mmcs.now hand.mask_oracle.0 in
    let words_are : words ≡ m.words = ap (λ f. f hand.mask_oracle.0) c.requires.words ∙ ap (mm.words_of scheme) told.oracle.commitment in
    let H = head (recorded_claim o p E (fixed_by shape) v) words sent.mu in
    let heads : H ≡ head_of b =
    ap (λ n. head n words sent.mu) (claim-same o g.met.EF.Field.is_field.ring E p shape v l recorded)
    ∙ ap (λ w. head (head_of b).claim w sent.mu) words_are ∙ ap (λ n. head (head_of b).claim m.words n) ends.total in
    let is = ap (λ n. fixed_by (recorded_shape n ell bits)) (sym (length-map hand.mask_messages.items _ ∙ told.masks)) in
    let h = (P c.into_sumcheck-2.new.challenger).history in
    let e = c.in_err-replayed.field-0.0 in
    let left = subst (λ s. LeavesMaskedReplay (told_by N) (claim_by p base o E s (head (recorded_claim o p E (fixed_by s) v) words sent.mu) sent.wire) (Err e) h)
    (ap (λ n. recorded_shape n c.mask_length-length.result bits) c.folding-rounds.ensures ∙ ap (λ k. recorded_shape l.folding k bits) c.mask_length-length.ensures) c.in_err-replayed.ensures.left in
    let x = recorded_player p E o shape l in
    subst (λ y. StaysInStep (run_in B N) (recorded_batch base o E shape p l y) c.from_residual-in_err-replayed.result h) (ap under drawn)
    (verifier-stops (told_by N) (run_in B N) N hand.mask_messages.items RecordedClaims (setting_of (terms base o E bits) x) (stands_at x) m base shape ends.after (map N hand.randomness) H sent.wire h
    c.from_residual-in_err-replayed.result e refl is ends.left.played heads ends.wire g.met.EF.Field.is_field.ring c.requires.fit refl told.coded.masks failed left)

-- both are in step
pub returns-clause-steps : goal.returns-clause-steps
returns-clause-steps g c recorded =
    let o = g.EF.Field.ops in
    let base = g.F.Field.ops in
    let N = g.EF.Field.number in
    let B = g.F.Field.number in
    let P = g.C.Challenger.party in
    let E = g.EF.ExtensionField.extension in
    let z = g.Enc.ZkEncoding in
    let mm = g.M.Mmcs in
    let p = P c.args.challenger.now in
    let l = g.L.Layout.laid (layout_in c.args.prover) in
    let enc = encoding_in c.args.prover in
    let scheme = scheme_in c.args.prover in
    let ell = z.message_length enc in
    let bits = c.args.pow_bits in
    let shape = recorded_shape l.folding ell bits in
    let v = recorded_in c.args.verifier in
    let hand = c.in_ok-handoff.handoff in
    let told = c.in_ok-handoff.ensures in
    let under : Drawn → AskedMasks = λ d. masks_under z mm enc scheme (record { masks = d.masks; randomness = d.randomness }) 0 in
    let before : Drawn = record { masks = lists_in N hand.mask_messages.items; randomness = lists_in N hand.mask_randomness.items; left = g.G.Rng.stream c.into_sumcheck.new.rng } in
    let draws : Drawn = masks_from (z.message_from enc) (z.randomness_from enc) l.folding (g.G.Rng.stream c.args.rng.now) in
    let drawn : before ≡ draws = told.drawn in
    let m = under before in
    let b : MaskedBatch = recorded_batch base o E shape p l m in
    let handed = handed_in residual_in N in
    let sent = sent_in B N c.into_sumcheck.new.zk_data in
    let Ends : MaskedBatch → Type 0 = λ x. EndsMaskedBy with_side_scaled handed x (P c.into_sumcheck.new.challenger).history sent (Ok hand) in
    let copied = subst Ends (copied-recorded base o E shape p (P c.in_ok-copy.copy) l (under draws) c.in_ok-copy.ensures.rules c.in_ok-copy.ensures.history) told.batch in
    let ends : Ends b = subst (λ x. Ends (recorded_batch base o E shape p l x)) (sym (ap under drawn)) copied in
    let words = mm.words_of c.args.mmcs.now hand.mask_oracle.0 in
    let words_are : words ≡ m.words = ap (λ f. f hand.mask_oracle.0) c.requires.words ∙ ap (mm.words_of scheme) told.oracle.commitment in
    let ring = g.met.EF.Field.is_field.ring in
    let H = head (recorded_claim o p E (fixed_by shape) v) words sent.mu in
    let heads : H ≡ head_of b =
    ap (λ n. head n words sent.mu) (claim-same o ring E p shape v l recorded)
    ∙ ap (λ w. head (head_of b).claim w sent.mu) words_are ∙ ap (λ n. head (head_of b).claim m.words n) ends.total in
    let is = ap (λ n. fixed_by (recorded_shape n ell bits)) (sym (length-map hand.mask_messages.items _ ∙ told.masks)) in
    let h = (P c.into_sumcheck-2.new.challenger).history in
    let r = c.in_ok-replayed.replayed in
    let rs = map N hand.randomness in
    let left = subst (λ s. LeavesMaskedReplay (told_by N) (claim_by p base o E s (head (recorded_claim o p E (fixed_by s) v) words sent.mu) sent.wire) (Ok r) h)
    (ap (λ n. recorded_shape n c.mask_length-length.result bits) c.folding-rounds.ensures ∙ ap (λ k. recorded_shape l.folding k bits) c.mask_length-length.ensures) c.in_ok-replayed.ensures.left in
    let x = recorded_player p E o shape l in
    let half = half-twice base o g.EF.Algebra.embedding g.met.F.Field.is_field g.met.EF.Field.is_field g.met.EF.Algebra.embeds c.requires.fit.odd in
    let taken = verifier-accepts (told_by N) RecordedClaims (setting_of (terms base o E bits) x) (stands_at x) m base shape ends.after rs H sent.wire h r refl is ends.left.played heads ends.wire ring half left in
    let run : MaskedRun g.row.F.Denot g.row.EF.Denot = record {
      zk_data = c.into_sumcheck.new.zk_data;
      randomness = r.randomness;
      eps = r.eps;
      claimed_residual = r.claimed_residual;
      scaled = c.claimed_sum.result;
      carried = c.ZERO.result;
      mask_residual = c.mask_residual.result;
    } in
    subst (λ y. StaysInStep (run_in B N) (recorded_batch base o E shape p l y) (Ok run) h) (ap under drawn)
    (steps-through b ends.after rs (told_by N r) h (run_in B N run) ring ends.left.played taken refl refl refl ends.total ends.wire
    (c.claimed_sum.ensures.number ∙ ap (λ (x : ProverView). x.claim) ends.left.shown ∙ scaled-claim o _ _)
    (ap N c.ZERO.ensures ∙ g.met.EF.Field.zero_is ∙ nothing-carried o ring (N r.eps) b.half (length b.masks))
    (c.mask_residual.ensures ∙ ap (λ xs. masks_at o (lists_in N xs) (map N c.as_slice.result.now)) c.deref.ensures.value ∙ ap (λ xs. masks_at o m.masks (map N xs)) c.as_slice.ensures))

-- nothing was drawn
pub returns-in_err-copy-clause-refused : goal.returns-in_err-copy-clause-refused
returns-in_err-copy-clause-refused g c =
    let enc = encoding_in c.args.prover in
    no-masks-drawn c.from_residual.result (g.Enc.ZkEncoding.message_from enc) (g.Enc.ZkEncoding.randomness_from enc) _ (g.G.Rng.stream c.args.rng.now)

-- all masks and their randomness were
pub returns-in_err-replayed-clause-refused : goal.returns-in_err-replayed-clause-refused
returns-in_err-replayed-clause-refused g c =
    let enc = encoding_in c.args.prover in
    masks-drawn-refused c.from_residual-in_err-replayed.result (g.Enc.ZkEncoding.message_from enc) (g.Enc.ZkEncoding.randomness_from enc) _ _ _ _ _ c.in_ok-handoff.ensures.drawn

pub returns-clause-drawn : goal.returns-clause-drawn
returns-clause-drawn g c = ap (λ (d : Drawn). d.left) c.in_ok-handoff.ensures.drawn
