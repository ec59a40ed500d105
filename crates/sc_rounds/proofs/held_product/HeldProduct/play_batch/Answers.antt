use Rattle.std.proofs.Common.{ap, sym, ◌∙◌, refl, rules, map, ◌++◌}
use Rattle.sc_definitions.specs.Events.{words}
use Rattle.sc_definitions.specs.Seeds.{quadratic_seed}
use Rattle.sc_transcript.specs.Shapes.{seed_of}
use Rattle.sc_transcript.specs.declared.transcript.SumcheckShape.{SumcheckShape}
use Rattle.sc_transcript.specs.declared.rounds.BatchShape.{BatchShape}
use Rattle.sc_transcript.specs.Data.{wire_in}
use Rattle.sc_transcript.proofs.ReplayedLaws.{same_channel}
use Rattle.sc_transcript.proofs.Lent.{returned}
use Rattle.sc_definitions.specs.ProverViews.{prover_state_at}
use Rattle.sc_rounds.specs.HeldProducts.{image_in}
use Rattle.sc_transcript.proofs.BatchLaws.{same_setting, played_at, holds_at, stops_batch, never_begun, sum_at, as_none, none_before, enough_left, held_if_any}
use Rattle.sc_rounds.proofs.HeldLaws.{held_sized}
use Rattle.sc_definitions.proofs.ProverStateLaws.{played_none}
use Rattle.std.proofs.lemmas.List.{length-map}
use Rattle.sc_rounds.proofs.held_product.HeldProduct.play_batch.Goals as goal

pub returns-in-Ok-clause-batch : goal.returns-in-Ok-clause-batch
returns-in-Ok-clause-batch g c =
    let to = g.EF.FromTable.to_number in
    let H = λ (x : g.row.C.Denot). (g.C.Challenger.party x).history in
    let R = λ (x : g.row.C.Denot). (g.C.Challenger.party x).rules in
    let W = wire_in g.G.Field.number g.EG.Field.number in
    let begun = c.over-transcript.ensures in
    let t = c.args.self.now in
    let D = g.EG.ExtensionField.DEGREE in
    let seeded = ap (λ (s : SumcheckShape). H c.args.challenger.now ++ words (seed_of D s)) c.new-shape.ensures
    ∙ ap (λ b. H c.args.challenger.now ++ words (quadratic_seed D b c.args.pow_bits c.args.rounds)) c.basis.ensures in
    let size = held_sized g.EF.Field.ops g.EF.Field.number t.poly t.sum t.held in
    let none = played_none _ _ (record { evals = length-map _ to ∙ size.0; weights = length-map _ to ∙ size.1 }) in
    let all = c.in-Ok.ensures.rounds _ (as_none _ _ _ (ap (map g.EG.Field.number) c.in_ok-challenges.ensures.empty) none) in
    record {
      whole = sum_at _ _ _ _ (sym (all.0 ∙ ap (λ (s : BatchShape). s.num_rounds) (c.in-Ok.ensures.continues.shape ∙ begun.fresh.shape) ∙ ap (λ (s : SumcheckShape). s.num_rounds) c.new-shape.ensures))
          (none_before _ _ _ _ c.in-Ok.ensures.left begun.fresh.played);
      played = played_at
          (same_setting (same_channel g.G.Field.ops.size (ap R begun.lent.same ∙ c.in_ok-seed.ensures.rules) (ap (λ s. s.pow_bits) begun.fresh.shape ∙ ap (λ (s : SumcheckShape). s.pow_bits) c.new-shape.ensures)) refl refl)
          (ap (λ h. prover_state_at (image_in to c.args.self.now) h (W c.args.sumcheck_data.now)) (ap H begun.lent.same ∙ c.in_ok-seed.ensures.history ∙ seeded))
          (ap (λ h. prover_state_at (image_in to c.play.new.self) h (W c.play.new.sumcheck_data)) (sym (ap H (returned (search rules) c.in-Ok.ensures.continues.lender begun.lent.lender c.finish.ensures))))
          (ap (map g.EG.Field.number) (sym c.new.ensures)) all.1;
    }

pub returns-in-Ok-clause-holds : goal.returns-in-Ok-clause-holds
returns-in-Ok-clause-holds g c =
    let to = g.EF.FromTable.to_number in
    let H = λ (x : g.row.C.Denot). (g.C.Challenger.party x).history in
    let R = λ (x : g.row.C.Denot). (g.C.Challenger.party x).rules in
    let W = wire_in g.G.Field.number g.EG.Field.number in
    let begun = c.over-transcript.ensures in
    let t = c.args.self.now in
    let D = g.EG.ExtensionField.DEGREE in
    let seeded = ap (λ (s : SumcheckShape). H c.args.challenger.now ++ words (seed_of D s)) c.new-shape.ensures
    ∙ ap (λ b. H c.args.challenger.now ++ words (quadratic_seed D b c.args.pow_bits c.args.rounds)) c.basis.ensures in
    let size = held_sized g.EF.Field.ops g.EF.Field.number t.poly t.sum t.held in
    let none = played_none _ _ (record { evals = length-map _ to ∙ size.0; weights = length-map _ to ∙ size.1 }) in
    holds_at
    (same_setting (same_channel g.G.Field.ops.size (ap R begun.lent.same ∙ c.in_ok-seed.ensures.rules) (ap (λ s. s.pow_bits) begun.fresh.shape ∙ ap (λ (s : SumcheckShape). s.pow_bits) c.new-shape.ensures)) refl refl)
    (ap (λ h. prover_state_at (image_in to c.args.self.now) h (W c.args.sumcheck_data.now)) (ap H begun.lent.same ∙ c.in_ok-seed.ensures.history ∙ seeded))
    (ap (map g.EG.Field.number) (sym c.new.ensures))
    (held_if_any (ap (map g.EG.Field.number) c.in_ok-challenges.ensures.empty) none c.in-Ok.ensures.holds)

pub returns-in-Err-clause-batch : goal.returns-in-Err-clause-batch
returns-in-Err-clause-batch g c =
    let to = g.EF.FromTable.to_number in
    let H = λ (x : g.row.C.Denot). (g.C.Challenger.party x).history in
    let R = λ (x : g.row.C.Denot). (g.C.Challenger.party x).rules in
    let W = wire_in g.G.Field.number g.EG.Field.number in
    let begun = c.over-transcript.ensures in
    let t = c.args.self.now in
    let D = g.EG.ExtensionField.DEGREE in
    let seeded = ap (λ (s : SumcheckShape). H c.args.challenger.now ++ words (seed_of D s)) c.new-shape.ensures
    ∙ ap (λ b. H c.args.challenger.now ++ words (quadratic_seed D b c.args.pow_bits c.args.rounds)) c.basis.ensures in
    let size = held_sized g.EF.Field.ops g.EF.Field.number t.poly t.sum t.held in
    let none = played_none _ _ (record { evals = length-map _ to ∙ size.0; weights = length-map _ to ∙ size.1 }) in
    let some = c.in-Err.ensures.rounds _ (as_none _ _ _ (ap (map g.EG.Field.number) c.in_ok-challenges.ensures.empty) none) in
    stops_batch _ c.in-Err.error
    (same_setting (same_channel g.G.Field.ops.size (ap R begun.lent.same ∙ c.in_ok-seed.ensures.rules) (ap (λ s. s.pow_bits) begun.fresh.shape ∙ ap (λ (s : SumcheckShape). s.pow_bits) c.new-shape.ensures)) refl refl)
    (ap (λ h. prover_state_at (image_in to c.args.self.now) h (W c.args.sumcheck_data.now)) (ap H begun.lent.same ∙ c.in_ok-seed.ensures.history ∙ seeded))
    (ap (λ h. prover_state_at (image_in to c.play.new.self) h (W c.play.new.sumcheck_data)) (sym (ap H (returned (search rules) c.in-Err.ensures.continues.lender begun.lent.lender c.abort.ensures))))
    (none_before _ _ _ _ c.in-Err.ensures.left begun.fresh.played) some.0 (ap (λ (s : BatchShape). s.num_rounds) (c.in-Err.ensures.continues.shape ∙ begun.fresh.shape) ∙ ap (λ (s : SumcheckShape). s.num_rounds) c.new-shape.ensures) some.1

-- the transcript keeps the challenger's rules
pub returns-in-Ok-clause-rules : goal.returns-in-Ok-clause-rules
returns-in-Ok-clause-rules g c =
    let begun = c.over-transcript.ensures in
    ap (λ (x : g.row.C.Denot). (g.C.Challenger.party x).rules) (returned (search rules) c.in-Ok.ensures.continues.lender begun.lent.lender c.finish.ensures) ∙ c.in-Ok.ensures.continues.rules
    ∙ ap (λ (x : g.row.C.Denot). (g.C.Challenger.party x).rules) begun.lent.same ∙ c.in_ok-seed.ensures.rules

pub returns-in-Err-clause-rules : goal.returns-in-Err-clause-rules
returns-in-Err-clause-rules g c =
    let begun = c.over-transcript.ensures in
    ap (λ (x : g.row.C.Denot). (g.C.Challenger.party x).rules) (returned (search rules) c.in-Err.ensures.continues.lender begun.lent.lender c.abort.ensures) ∙ c.in-Err.ensures.continues.rules
    ∙ ap (λ (x : g.row.C.Denot). (g.C.Challenger.party x).rules) begun.lent.same ∙ c.in_ok-seed.ensures.rules

-- without memory for the challenges or the seed nothing has begun
pub returns-in_err-challenges-clause-batch : goal.returns-in_err-challenges-clause-batch
returns-in_err-challenges-clause-batch g c = never_begun _ _ _ c.from_residual.ensures.1 refl

pub returns-in_err-seed-clause-batch : goal.returns-in_err-seed-clause-batch
returns-in_err-seed-clause-batch g c =
    let to = g.EF.FromTable.to_number in
    never_begun _ _ _ c.from_residual-in_err-seed.ensures.1
    (ap (λ h. prover_state_at (image_in to c.args.self.now) h (wire_in g.G.Field.number g.EG.Field.number c.args.sumcheck_data.now)) c.in_err-seed.ensures.history)

-- no round was played, and there is no challenge yet
pub play-requires-clause-variables : goal.play-requires-clause-variables
play-requires-clause-variables g c =
    let begun = c.over-transcript.ensures in
    enough_left _ _ _ _ (ap (λ (s : BatchShape). s.num_rounds) begun.fresh.shape ∙ ap (λ (s : SumcheckShape). s.num_rounds) c.new-shape.ensures) c.requires.variables begun.fresh.played

pub finish-requires : goal.finish-requires
finish-requires g c =
    let to = g.EF.FromTable.to_number in
    let t = c.args.self.now in
    let size = held_sized g.EF.Field.ops g.EF.Field.number t.poly t.sum t.held in
    let none = played_none _ _ (record { evals = length-map _ to ∙ size.0; weights = length-map _ to ∙ size.1 }) in
    (c.in-Ok.ensures.rounds _ (as_none _ _ _ (ap (map g.EG.Field.number) c.in_ok-challenges.ensures.empty) none)).0
