use Rattle.std.proofs.Common.{rules, length, refl, ap, sym, ◌∙◌}
use Rattle.std.proofs.lemmas.List.{length-map}
use Rattle.sc_commitments.specs.Matrices.{lists_in}
use Rattle.sc_zk_definitions.specs.declared.prelude.ZkPrelude.TheVariants.{RecordedClaims}
use Rattle.sc_zk_transcript.specs.Shapes.{shape_made}
use Rattle.sc_zk_rounds.specs.Data.{sent_in}
use Rattle.sc_zk_rounds.specs.Views.{Coded, coded_in, residual_in, handed_in}
use Rattle.sc_zk_layout.specs.Grids.{with_side_scaled}
use Rattle.sc_zk_layout.specs.Recorded.{played_in}
use Rattle.sc_zk_layout.proofs.RecordedLaws.{ends-unbegun, ends-as, same-laid}
use Rattle.sc_zk_layout.proofs.prover.play_under.Goals as goal

-- nothing is committed to
pub returns-in_err-committed-clause-batch : goal.returns-in_err-committed-clause-batch
returns-in_err-committed-clause-batch g c = ends-unbegun with_side_scaled _ _ _ _ c.from_residual.result (search rules) refl c.requires.fresh.wire

-- there is no room for the challenges
pub returns-in_err-challenges-clause-batch : goal.returns-in_err-challenges-clause-batch
returns-in_err-challenges-clause-batch g c = ends-unbegun with_side_scaled _ _ _ _ c.from_residual-in_err-challenges.result (search rules) refl c.requires.fresh.wire

-- the batch that is played is the one that is asked for
pub returns-in_err-prover-clause-batch : goal.returns-in_err-prover-clause-batch
returns-in_err-prover-clause-batch g c =
    let N = g.EF.Field.number in
    let o = g.EF.Field.ops in
    let E = g.EF.ExtensionField.extension in
    let p = g.C.Challenger.party c.args.challenger.now in
    let l = g.L.Layout.laid c.args.layout.now in
    let masks = c.args.masks.items in
    let ell = g.Enc.ZkEncoding.message_length c.args.encoding.now in
    let committed = c.in_ok-committed.ensures in
    let coded = coded_in N masks c.args.randomness.items in
    let commitment = λ (x : Coded). g.M.Mmcs.commitment_of c.args.mmcs.now (g.Enc.ZkEncoding.encoded c.args.encoding.now x.masks x.randomness) in
    let words = c.deref-4.ensures.value ∙ committed.words
    ∙ ap (g.M.Mmcs.words_of c.args.mmcs.now) (committed.oracle.commitment ∙ ap (λ vs. commitment (coded_in N vs c.deref-2.result.now)) c.deref.ensures.value
    ∙ ap (λ vs. commitment (coded_in N masks vs)) c.deref-2.ensures.value) in
    let shape = c.new_batching-shape.ensures ∙ ap (λ n. shape_made RecordedClaims n c.message_len.result c.args.pow_bits) (c.len-2.ensures ∙ c.args.masks.ok.0)
    ∙ ap (λ n. shape_made RecordedClaims (length masks) n c.args.pow_bits) c.message_len.ensures in
    let same = same-laid p E g.F.Field.ops o l c.new_batching-shape.result (shape_made RecordedClaims (length masks) ell c.args.pow_bits) c.new_batching-shape.result.ell_zk ell
    (lists_in N c.deref-3.result.now) (lists_in N masks) c.deref-4.result.now _ shape (ap (λ s. s.ell_zk) shape) (ap (lists_in N) c.deref-3.ensures.value) words in
    ends-as with_side_scaled (played_in c.play_recorded.new.challenges.items) (handed_in residual_in N) _ _ (g.C.Challenger.party c.play_recorded.new.challenger).history
    (sent_in g.F.Field.number N c.play_recorded.new.zk_data) c.in_err-prover.field-0.0 c.from_residual-in_err-prover.result same (search rules) c.in_err-prover.ensures.batch

-- as many challenges as masks
pub returns-clause-challenges : goal.returns-clause-challenges
returns-clause-challenges g c =
    let N = g.EF.Field.number in
    let whole = c.in_ok-prover.ensures.batch.left.played.whole in
    ap length c.new.ensures ∙ sym (length-map c.play_recorded.new.challenges.items N) ∙ sym whole ∙ length-map c.deref-3.result.now _ ∙ ap length c.deref-3.ensures.value
