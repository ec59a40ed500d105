use Rattle.std.proofs.Common.{rules, map, Ok, Err, refl, ap, ◌∙◌}
use Rattle.sc_definitions.specs.Ring.{plus}
use Rattle.sc_commitments.specs.Matrices.{lists_in}
use Rattle.sc_transcript.specs.declared.rounds.BatchShape.{BatchShape}
use Rattle.sc_transcript.proofs.ReplayedLaws.{same_channel}
use Rattle.sc_transcript.proofs.BatchLaws.{same_setting}
use Rattle.sc_zk_definitions.specs.MaskedRuns.{Masking}
use Rattle.sc_zk_definitions.specs.MaskedBatches.{MaskedBatch}
use Rattle.sc_challenger.specs.Parties.{Party}
use Rattle.sc_zk_rounds.specs.Views.{player, terms, setting_of, stands_at, masks_for, batch_of}
use Rattle.sc_zk_rounds.proofs.MaskedBatchLaws.{combination-is, history-is, masks-are, head-stops, batch-rounds, whole-batch, broken-batch, stops-batch}
use Rattle.sc_zk_rounds.proofs.player.play_begun.Goals as goal

-- the head is broken off
pub returns-in_err-eps-clause-plays : goal.returns-in_err-eps-clause-plays
returns-in_err-eps-clause-plays g c h begins =
    let o = g.EF.Field.ops in
    let N = g.EF.Field.number in
    let P = g.C.Challenger.party in
    let E = g.EF.ExtensionField.extension in
    let shown = g.P.PlainRounds.shown in
    let p = shown c.args.prover.now in
    let party : Party = record (P c.args.challenger.now) { history = h } in
    let x = player g.F.Field.number N party p c.args.zk_data.now in
    let s = setting_of (terms g.F.Field.ops o E c.args.shape.pow_bits) x in
    let t = stands_at x in
    let vs = c.args.masks.now in
    let ws = c.args.words.now in
    let mu = c.total-zk_data.result in
    let claim = plus o p.claim (N c.args.aux) in
    let k : Masking = record { masks = lists_in N vs; eps = 0; half = N c.one_half.result; aux = N c.args.aux } in
    let total = c.total-zk_data.ensures k c.one_half.ensures.half (c.new-mixing.ensures k refl refl refl) in
    let b : MaskedBatch = batch_of g.F.Field.ops o E c.args.shape x (masks_for N c.args.shape vs ws c.args.aux) in
    stops-batch N b (P c.combine_begun.new.challenger).history _ c.from_residual.result (search rules)
    (head-stops N s t vs ws c.args.shape c.args.aux mu claim c.requires.shape.is refl refl total _ (c.in_err-eps.ensures.combines h claim begins))

-- the rounds are broken off
pub returns-in_err-play_masks-clause-plays : goal.returns-in_err-play_masks-clause-plays
returns-in_err-play_masks-clause-plays g c h begins =
    let o = g.EF.Field.ops in
    let N = g.EF.Field.number in
    let P = g.C.Challenger.party in
    let E = g.EF.ExtensionField.extension in
    let shown = g.P.PlainRounds.shown in
    let p = shown c.args.prover.now in
    let party : Party = record (P c.args.challenger.now) { history = h } in
    let x = player g.F.Field.number N party p c.args.zk_data.now in
    let s = setting_of (terms g.F.Field.ops o E c.args.shape.pow_bits) x in
    let t = stands_at x in
    let vs = c.args.masks.now in
    let ws = c.args.words.now in
    let mu = c.total-zk_data.result in
    let claim = plus o p.claim (N c.args.aux) in
    let k : Masking = record { masks = lists_in N vs; eps = 0; half = N c.one_half.result; aux = N c.args.aux } in
    let total = c.total-zk_data.ensures k c.one_half.ensures.half (c.new-mixing.ensures k refl refl refl) in
    let b : MaskedBatch = batch_of g.F.Field.ops o E c.args.shape x (masks_for N c.args.shape vs ws c.args.aux) in
    let combined = c.in_ok-eps.ensures.combines h claim begins in
    let eps = combination-is N s t vs ws c.args.shape c.args.aux mu claim c.requires.shape.is refl refl total c.in_ok-eps.eps combined.0 in
    let begun = history-is N s t vs ws c.args.shape c.args.aux mu claim c.requires.shape.is refl refl total (P c.combine_begun.new.challenger).history combined.1 in
    let are = masks-are N s t vs ws c.args.shape c.args.aux mu claim c.requires.shape.is refl refl total c.one_half.result c.in_ok-eps.eps c.new-mixing.result c.one_half.ensures.number
    c.one_half.ensures.half c.new-mixing.ensures eps in
    let after = stands_at (player g.F.Field.number N (P c.play_masks.new.challenger) (shown c.play_masks.new.prover) c.play_masks.new.zk_data) in
    let rs = map N c.play_masks.new.challenges.items in
    broken-batch (Unit {0}) N b after rs rs c.in_err-play_masks.field-0.0 c.from_residual-in_err-play_masks.result (search rules)
    (batch-rounds {X = Unit {0}} o N b vs c.in_ok-eps.eps c.new-mixing.result after rs (Err c.in_err-play_masks.field-0.0)
    (same_setting (same_channel g.F.Field.ops.size c.in_ok-eps.ensures.rules (ap (λ (x : BatchShape). x.pow_bits) c.batch.ensures)) refl refl) (ap (λ x. record t { history = x }) begun) are c.in_err-play_masks.ensures.rounds)

pub returns-clause-total : goal.returns-clause-total
returns-clause-total g c =
    let N = g.EF.Field.number in
    let k : Masking = record { masks = lists_in N c.args.masks.now; eps = 0; half = N c.one_half.result; aux = N c.args.aux } in
    ap N c.play_masks.ensures.total ∙ c.total-zk_data.ensures k c.one_half.ensures.half (c.new-mixing.ensures k refl refl refl)

-- the rounds are played
pub returns-clause-plays : goal.returns-clause-plays
returns-clause-plays g c h begins =
    let o = g.EF.Field.ops in
    let N = g.EF.Field.number in
    let P = g.C.Challenger.party in
    let E = g.EF.ExtensionField.extension in
    let shown = g.P.PlainRounds.shown in
    let p = shown c.args.prover.now in
    let party : Party = record (P c.args.challenger.now) { history = h } in
    let x = player g.F.Field.number N party p c.args.zk_data.now in
    let s = setting_of (terms g.F.Field.ops o E c.args.shape.pow_bits) x in
    let t = stands_at x in
    let vs = c.args.masks.now in
    let ws = c.args.words.now in
    let mu = c.total-zk_data.result in
    let claim = plus o p.claim (N c.args.aux) in
    let k : Masking = record { masks = lists_in N vs; eps = 0; half = N c.one_half.result; aux = N c.args.aux } in
    let total = c.total-zk_data.ensures k c.one_half.ensures.half (c.new-mixing.ensures k refl refl refl) in
    let b : MaskedBatch = batch_of g.F.Field.ops o E c.args.shape x (masks_for N c.args.shape vs ws c.args.aux) in
    let combined = c.in_ok-eps.ensures.combines h claim begins in
    let eps = combination-is N s t vs ws c.args.shape c.args.aux mu claim c.requires.shape.is refl refl total c.in_ok-eps.eps combined.0 in
    let begun = history-is N s t vs ws c.args.shape c.args.aux mu claim c.requires.shape.is refl refl total (P c.combine_begun.new.challenger).history combined.1 in
    let are = masks-are N s t vs ws c.args.shape c.args.aux mu claim c.requires.shape.is refl refl total c.one_half.result c.in_ok-eps.eps c.new-mixing.result c.one_half.ensures.number
    c.one_half.ensures.half c.new-mixing.ensures eps in
    let after = stands_at (player g.F.Field.number N (P c.play_masks.new.challenger) (shown c.play_masks.new.prover) c.play_masks.new.zk_data) in
    let rs = map N c.play_masks.new.challenges.items in (
      whole-batch b after rs c.in_ok-play_masks.field-0
          (batch-rounds o N b vs c.in_ok-eps.eps c.new-mixing.result after rs (Ok c.in_ok-play_masks.field-0)
          (same_setting (same_channel g.F.Field.ops.size c.in_ok-eps.ensures.rules (ap (λ (x : BatchShape). x.pow_bits) c.batch.ensures)) refl refl) (ap (λ x. record t { history = x }) begun) are c.in_ok-play_masks.ensures.rounds),
      eps,
    )
