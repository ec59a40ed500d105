use Rattle.std.proofs.Common.{◌≡◌, ◌+◌, ◌≤◌, map, vec_len, vec_capacity}
use Rattle.sc_definitions.specs.ProverStates.{ProverState, IsPlayed}
use Rattle.sc_definitions.specs.ProverViews.{KeepsForm}
use Rattle.sc_transcript.specs.Drivers.{Continues}
use Rattle.sc_transcript.specs.Transcripts.{driver_in}
use Rattle.sc_rounds.specs.HeldProducts.{shown_in, image_in, image_stored_in, setting_over, prover_state_over}
use Rattle.sc_transcript.specs.Batches.{HoldsIfMore}
use Rattle.sc_rounds.proofs.held_product.HeldProduct.play.Given as goal

abbrev pub invariant-loop-round : goal.invariant-loop-round
invariant-loop-round g l =
    let to = g.EF.FromTable.to_number in
    let M = g.EG.Field.number in
    let setting = setting_over g.EG.ExtensionField.extension g.EG.Field.ops (shown_in l.fn.self) l.fn.transcript in
    let begun = prover_state_over M (image_in to l.fn.self) l.fn.transcript l.fn.sumcheck_data in
    let before = map M l.fn.challenges.items in
    record {
      continues : Continues (driver_in l.fn.transcript) (driver_in l.transcript);
      played : l.transcript.rounds.played ≡ l._round;
      left : (shown_in l.self).variables + l._round ≡ (shown_in l.fn.self).variables + l.fn.transcript.rounds.played;
      form : KeepsForm (shown_in l.fn.self) (shown_in l.self);
      len : vec_len l.challenges ≡ l._round;
      room : l.transcript.rounds.shape.num_rounds ≤ vec_capacity l.challenges;
      batch : (start : ProverState) → IsPlayed setting start begun before →
          IsPlayed setting start (prover_state_over M (image_in to l.self) l.transcript l.sumcheck_data) (map M l.challenges.items);
      holds : HoldsIfMore (record { setting = setting; now = begun; drawn = before }) (image_stored_in to l.fn.self) (map M l.challenges.items) (image_stored_in to l.self);
    }
