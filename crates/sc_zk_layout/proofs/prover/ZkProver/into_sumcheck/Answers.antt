use Rattle.std.proofs.Common.{rules, ◌≡◌, ℕ, length, Vec, Global, OnErr, refl, ap, sym, ◌∙◌, subst}
use Rattle.std.proofs.lemmas.Result.{IfOk-weaker}
use Rattle.sc_commitments.specs.Draws.{Drawn, masks_from, SomeMasksDrawn}
use Rattle.sc_commitments.proofs.CodeLaws.{masks-drawn-refused}
use Rattle.sc_commitments.specs.Matrices.{lists_in}
use Rattle.sc_zk_definitions.specs.declared.prelude.ZkPrelude.TheVariants.{RecordedClaims}
use Rattle.sc_zk_transcript.specs.declared.shape.ZkSumcheckShape.{ZkSumcheckShape}
use Rattle.sc_zk_transcript.specs.Shapes.{shape_made}
use Rattle.sc_zk_rounds.specs.Data.{sent_in}
use Rattle.sc_zk_rounds.specs.Handoffs.{AskedMasks, EndsMaskedBy}
use Rattle.sc_zk_rounds.specs.Views.{AreCoded, residual_in, handed_in, masks_under}
use Rattle.sc_zk_layout.specs.Grids.{with_side_scaled}
use Rattle.sc_zk_layout.specs.Recorded.{recorded_batch}
use Rattle.sc_zk_layout.proofs.RecordedLaws.{ends-unbegun, ok-both}
use Rattle.sc_zk_layout.proofs.prover.ZkProver.into_sumcheck.Goals as goal

-- no masks are drawn
pub returns-in_err-masks-clause-batch : goal.returns-in_err-masks-clause-batch
returns-in_err-masks-clause-batch g c = ends-unbegun with_side_scaled _ _ _ _ c.from_residual.result (search rules) refl c.requires.fresh.wire

-- the batch that is played is the one under the masks that were drawn
pub returns-clause-batch : goal.returns-clause-batch
returns-clause-batch g c =
    let N = g.EF.Field.number in
    let o = g.EF.Field.ops in
    let E = g.EF.ExtensionField.extension in
    let p = g.C.Challenger.party c.args.challenger.now in
    let l = g.L.Layout.laid c.args.self.inner in
    let ell = g.Enc.ZkEncoding.message_length c.args.self.encoding in
    let shape : ℕ → ZkSumcheckShape = λ n. shape_made RecordedClaims n ell c.args.pow_bits in
    let under : Drawn → AskedMasks = λ d. masks_under g.Enc.ZkEncoding g.M.Mmcs c.args.self.encoding c.args.self.mmcs (record { masks = d.masks; randomness = d.randomness }) 0 in
    let made = c.in_ok-masks.ensures in
    let count = made.counts.0 ∙ c.folding-folding.ensures.is in
    let Ends : ℕ → AskedMasks → Type 0 = λ n m.
    EndsMaskedBy with_side_scaled (handed_in residual_in N) (recorded_batch g.F.Field.ops o E (shape n) p l m)
    (g.C.Challenger.party c.play_under.new.challenger).history (sent_in g.F.Field.number N c.play_under.new.zk_data) c.play_under.result in
    let draws : ℕ → Drawn = λ n. masks_from (g.Enc.ZkEncoding.message_from c.args.self.encoding) (g.Enc.ZkEncoding.randomness_from c.args.self.encoding) n (g.G.Rng.stream c.args.rng.now) in
    let before : Drawn = record { masks = lists_in N c.in_ok-masks.masks.items; randomness = lists_in N c.in_ok-masks.randomness.items; left = g.G.Rng.stream c.sample_masks.new.rng } in
    let drawn : before ≡ draws l.folding = made.drawn ∙ ap draws c.folding-folding.ensures.is in
    subst (λ m. Ends l.folding m) (ap under drawn) (subst (λ n. Ends n (under before)) count c.play_under.ensures.batch)

-- as many masks as rounds
pub returns-clause-masks : goal.returns-clause-masks
returns-clause-masks g c =
    IfOk-weaker c.play_under.result _ _ (λ h is. ap (λ (v : Vec (Vec _ Global) Global). length v.items) is ∙ c.in_ok-masks.ensures.counts.0 ∙ c.folding-folding.ensures.is) c.play_under.ensures.masks

-- and as many challenges
pub returns-clause-challenges : goal.returns-clause-challenges
returns-clause-challenges g c =
    IfOk-weaker c.play_under.result _ _ (λ h is. is ∙ c.in_ok-masks.ensures.counts.0 ∙ c.folding-folding.ensures.is) c.play_under.ensures.challenges

-- each mask and its randomness have the encoding's lengths
pub returns-clause-coded : goal.returns-clause-coded
returns-clause-coded g c =
    let l = g.Enc.ZkEncoding.message_length c.args.self.encoding in
    let r = g.Enc.ZkEncoding.randomness_length c.args.self.encoding in
    let made = c.in_ok-masks.ensures in
    let coded : AreCoded l r c.in_ok-masks.masks.items c.in_ok-masks.randomness.items = record { same = made.counts.0 ∙ sym made.counts.1; masks = made.masks; randomness = made.randomness } in
    ok-both c.play_under.result
    (λ h masks randomness.
    subst (λ (v : Vec (Vec _ Global) Global). AreCoded l r v.items h.mask_randomness.items) (sym masks)
    (subst (λ (v : Vec (Vec _ Global) Global). AreCoded l r c.in_ok-masks.masks.items v.items) (sym randomness) coded))
    c.play_under.ensures.masks c.play_under.ensures.randomness

-- all masks are drawn
pub returns-clause-refused : goal.returns-clause-refused
returns-clause-refused g c =
    let message = g.Enc.ZkEncoding.message_from c.args.self.encoding in
    let randomness = g.Enc.ZkEncoding.randomness_from c.args.self.encoding in
    let made = c.in_ok-masks.ensures in
    subst (λ n. OnErr c.play_under.result (SomeMasksDrawn message randomness n (g.G.Rng.stream c.args.rng.now) (g.G.Rng.stream c.sample_masks.new.rng))) c.folding-folding.ensures.is
    (masks-drawn-refused c.play_under.result message randomness _ _ _ _ _ made.drawn)
