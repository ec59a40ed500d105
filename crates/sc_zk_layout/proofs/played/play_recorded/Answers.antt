use Rattle.std.proofs.Common.{rules, ◌≡◌, map, Ok, Err, inr, refl, ap, ◌∙◌, subst}
use Rattle.sc_definitions.specs.Ring.{plus}
use Rattle.sc_definitions.specs.ProverViews.{KeepsForm}
use Rattle.sc_challenger.specs.Parties.{channel_by}
use Rattle.sc_commitments.specs.Matrices.{lists_in}
use Rattle.sc_rounds.specs.ProverViews.{shown_by, stored_by}
use Rattle.sc_zk_definitions.specs.MaskedBatches.{MaskedBatch, head_of}
use Rattle.sc_zk_transcript.specs.Shapes.{fixed_by}
use Rattle.sc_zk_rounds.specs.Data.{masked_wire_in, sent_in}
use Rattle.sc_zk_rounds.specs.Handoffs.{asked_masks, PlaysBatch}
use Rattle.sc_zk_rounds.specs.Views.{player, stands_at}
use Rattle.sc_zk_layout.specs.Grids.{with_side_scaled}
use Rattle.sc_zk_layout.specs.Played.{rounds_show}
use Rattle.sc_zk_layout.specs.Recorded.{laid_shown, laid_by_draw, recorded_batch, played_in}
use Rattle.sc_zk_layout.proofs.RecordedLaws.{same-recorded, shape-fixed, ends-in-head, ends-broken-by, ends-after, hands-on-side}
use Rattle.sc_zk_layout.proofs.played.play_recorded.Goals as goal

-- no batching challenge is drawn
pub returns-in_err-alpha-clause-batch : goal.returns-in_err-alpha-clause-batch
returns-in_err-alpha-clause-batch g c =
    let N = g.EF.Field.number in
    let B = g.F.Field.number in
    let o = g.EF.Field.ops in
    let P = g.C.Challenger.party in
    let E = g.EF.ExtensionField.extension in
    let size = g.F.Field.ops.size in
    let p = P c.args.challenger.now in
    let l = g.L.Layout.laid c.args.layout.now in
    let shape = c.args.shape in
    let masks = lists_in N c.args.masks.now in
    let ws = c.args.words.now in
    let b : MaskedBatch = recorded_batch g.F.Field.ops o E shape p l (asked_masks shape.ell_zk masks ws 0) in
    let fixed = shape-fixed N shape c.args.masks.now b.shape c.requires.shape.is refl in
    let handed = played_in c.args.challenges.now.items in
    let sent = sent_in B N c.args.zk_data.now in
    let h = (P c.begin_recorded.new.challenger).history in
    ends-in-head with_side_scaled handed b sent c.from_residual.result (fixed_by shape) (head_of b).claim h (search rules) fixed refl (c.in_err-alpha.ensures.begins (head_of b).claim) c.requires.fresh

-- no grids are made
pub returns-in_err-rounds-clause-batch : goal.returns-in_err-rounds-clause-batch
returns-in_err-rounds-clause-batch g c =
    let N = g.EF.Field.number in
    let B = g.F.Field.number in
    let o = g.EF.Field.ops in
    let P = g.C.Challenger.party in
    let E = g.EF.ExtensionField.extension in
    let size = g.F.Field.ops.size in
    let p = P c.args.challenger.now in
    let l = g.L.Layout.laid c.args.layout.now in
    let shape = c.args.shape in
    let masks = lists_in N c.args.masks.now in
    let ws = c.args.words.now in
    let b : MaskedBatch = recorded_batch g.F.Field.ops o E shape p l (asked_masks shape.ell_zk masks ws 0) in
    let fixed = shape-fixed N shape c.args.masks.now b.shape c.requires.shape.is refl in
    let handed = played_in c.args.challenges.now.items in
    let sent = sent_in B N c.args.zk_data.now in
    let h = (P c.begin_recorded.new.challenger).history in
    ends-in-head with_side_scaled handed b sent c.from_residual-in_err-rounds.result (fixed_by shape) (head_of b).claim h (search rules) fixed refl
    (inr (inr (c.in_ok-alpha.ensures.begins (head_of b).claim))) c.requires.fresh

-- the rounds are broken off
pub returns-in_err-eps-clause-batch : goal.returns-in_err-eps-clause-batch
returns-in_err-eps-clause-batch g c =
    let N = g.EF.Field.number in
    let B = g.F.Field.number in
    let o = g.EF.Field.ops in
    let P = g.C.Challenger.party in
    let E = g.EF.ExtensionField.extension in
    let size = g.F.Field.ops.size in
    let p = P c.args.challenger.now in
    let l = g.L.Layout.laid c.args.layout.now in
    let shape = c.args.shape in
    let masks = lists_in N c.args.masks.now in
    let ws = c.args.words.now in
    let b : MaskedBatch = recorded_batch g.F.Field.ops o E shape p l (asked_masks shape.ell_zk masks ws 0) in
    let S = rounds_show c.in_ok-rounds.rounds in
    let shows : S ≡ laid_by_draw p E o shape l = c.in_ok-rounds.ensures.shown ∙ ap (laid_shown o l) c.in_ok-alpha.ensures.drawn in
    let none : N c.ZERO.result ≡ 0 = ap N c.ZERO.ensures ∙ g.met.EF.Field.zero_is in
    let same = same-recorded (P c.begin_recorded.new.challenger).rules p.rules E size shape.pow_bits o shape.prelude S (laid_by_draw p E o shape l) p.history (masked_wire_in B N c.args.zk_data.now)
    shape.ell_zk (N c.ZERO.result) masks ws c.in_ok-alpha.ensures.rules shows c.requires.fresh none in
    let begins = c.in_ok-alpha.ensures.begins (plus o S.claim (N c.ZERO.result)) in
    let now = rounds_show c.play_begun.new.prover in
    let after = stands_at (player B N (P c.play_begun.new.challenger) now c.play_begun.new.zk_data) in
    let challenges = c.play_begun.new.challenges.items in
    let rs = map N challenges in
    let sent = sent_in B N c.play_begun.new.zk_data in
    let handed = played_in challenges in
    let plays = subst (λ x. PlaysBatch {X = g.row.EF.Denot} N x after rs (Err c.in_err-eps.field-0.0)) same (c.in_err-eps.ensures.plays p.history begins) in
    ends-broken-by with_side_scaled handed b sent c.from_residual-in_err-eps.result N after rs c.in_err-eps.field-0.0 (search rules) plays refl

-- there is no memory for what is left
pub returns-in_err-prover-clause-batch : goal.returns-in_err-prover-clause-batch
returns-in_err-prover-clause-batch g c =
    let N = g.EF.Field.number in
    let B = g.F.Field.number in
    let o = g.EF.Field.ops in
    let P = g.C.Challenger.party in
    let E = g.EF.ExtensionField.extension in
    let size = g.F.Field.ops.size in
    let p = P c.args.challenger.now in
    let l = g.L.Layout.laid c.args.layout.now in
    let shape = c.args.shape in
    let masks = lists_in N c.args.masks.now in
    let ws = c.args.words.now in
    let b : MaskedBatch = recorded_batch g.F.Field.ops o E shape p l (asked_masks shape.ell_zk masks ws 0) in
    let S = rounds_show c.in_ok-rounds.rounds in
    let shows : S ≡ laid_by_draw p E o shape l = c.in_ok-rounds.ensures.shown ∙ ap (laid_shown o l) c.in_ok-alpha.ensures.drawn in
    let none : N c.ZERO.result ≡ 0 = ap N c.ZERO.ensures ∙ g.met.EF.Field.zero_is in
    let same = same-recorded (P c.begin_recorded.new.challenger).rules p.rules E size shape.pow_bits o shape.prelude S (laid_by_draw p E o shape l) p.history (masked_wire_in B N c.args.zk_data.now)
    shape.ell_zk (N c.ZERO.result) masks ws c.in_ok-alpha.ensures.rules shows c.requires.fresh none in
    let begins = c.in_ok-alpha.ensures.begins (plus o S.claim (N c.ZERO.result)) in
    let now = rounds_show c.play_begun.new.prover in
    let after = stands_at (player B N (P c.play_begun.new.challenger) now c.play_begun.new.zk_data) in
    let challenges = c.play_begun.new.challenges.items in
    let rs = map N challenges in
    let sent = sent_in B N c.play_begun.new.zk_data in
    let handed = played_in challenges in
    let plays = subst (λ x. PlaysBatch N x after rs (Ok c.in_ok-eps.eps)) same (c.in_ok-eps.ensures.plays p.history begins) in
    ends-after with_side_scaled handed b sent c.from_residual-in_err-prover.result after rs (search rules) plays.0 refl

-- all is played
pub returns-clause-batch : goal.returns-clause-batch
returns-clause-batch g c =
    let N = g.EF.Field.number in
    let B = g.F.Field.number in
    let o = g.EF.Field.ops in
    let P = g.C.Challenger.party in
    let E = g.EF.ExtensionField.extension in
    let size = g.F.Field.ops.size in
    let p = P c.args.challenger.now in
    let l = g.L.Layout.laid c.args.layout.now in
    let shape = c.args.shape in
    let masks = lists_in N c.args.masks.now in
    let ws = c.args.words.now in
    let b : MaskedBatch = recorded_batch g.F.Field.ops o E shape p l (asked_masks shape.ell_zk masks ws 0) in
    let S = rounds_show c.in_ok-rounds.rounds in
    let shows : S ≡ laid_by_draw p E o shape l = c.in_ok-rounds.ensures.shown ∙ ap (laid_shown o l) c.in_ok-alpha.ensures.drawn in
    let none : N c.ZERO.result ≡ 0 = ap N c.ZERO.ensures ∙ g.met.EF.Field.zero_is in
    let same = same-recorded (P c.begin_recorded.new.challenger).rules p.rules E size shape.pow_bits o shape.prelude S (laid_by_draw p E o shape l) p.history (masked_wire_in B N c.args.zk_data.now)
    shape.ell_zk (N c.ZERO.result) masks ws c.in_ok-alpha.ensures.rules shows c.requires.fresh none in
    let begins = c.in_ok-alpha.ensures.begins (plus o S.claim (N c.ZERO.result)) in
    let now = rounds_show c.play_begun.new.prover in
    let after = stands_at (player B N (P c.play_begun.new.challenger) now c.play_begun.new.zk_data) in
    let rs = map N c.play_begun.new.challenges.items in
    let plays = subst (λ x. PlaysBatch N x after rs (Ok c.in_ok-eps.eps)) same (c.in_ok-eps.ensures.plays p.history begins) in
    let form = subst (λ s. KeepsForm s now) shows c.in_ok-eps.ensures.form in
    record {
      after = after;
      left = hands-on-side (channel_by p E size shape.pow_bits) o (laid_by_draw p E o shape l) now (shown_by c.in_ok-prover.prover) b (P c.play_begun.new.challenger).history
          (masked_wire_in B N c.play_begun.new.zk_data) rs (N c.in_ok-eps.eps) (stored_by c.in_ok-prover.prover).held refl form plays.0 plays.1 c.in_ok-prover.ensures.shown c.in_ok-prover.ensures.settled;
      history = refl;
      wire = refl;
      total = c.in_ok-eps.ensures.total;
    }
