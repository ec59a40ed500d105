use Rattle.std.proofs.Common.{◌≡◌, ◌+◌, ◌≤◌, map, vec_len, vec_capacity}
use Rattle.sc_definitions.specs.ProverStates.{ProverState, IsPlayed}
use Rattle.sc_transcript.specs.Drivers.{Continues}
use Rattle.sc_transcript.specs.Transcripts.{driver_in}
use Rattle.sc_rounds.specs.Products.{variables_in, basis_in, order_in, sum_in}
use Rattle.sc_rounds.specs.Provers.{shown_of}
use Rattle.sc_rounds.specs.HeldProducts.{setting_over, prover_state_over}
use Rattle.sc_audit.proofs.small_value.play_rest.Given as goal

abbrev pub invariant-loop-round : goal.invariant-loop-round
invariant-loop-round g l =
    let N = g.EF.Field.number in
    let setting = setting_over g.EF.ExtensionField.extension g.EF.Field.ops (shown_of N l.fn.left l.fn.sum) l.fn.transcript in
    let begun = prover_state_over N (shown_of N l.fn.left l.fn.sum) l.fn.transcript l.fn.sumcheck_data in
    record {
      continues : Continues (driver_in l.fn.transcript) (driver_in l.transcript);
      played : l.transcript.rounds.played ≡ l._round;
      left : variables_in l.left + l._round ≡ variables_in l.fn.left + l.fn.transcript.rounds.played;
      basis : basis_in l.left ≡ basis_in l.fn.left;
      order : order_in l.left ≡ order_in l.fn.left;
      sum : N l.sum ≡ sum_in g.EF.Field.ops N l.left;
      len : vec_len l.challenges ≡ l._round;
      room : l.transcript.rounds.shape.num_rounds ≤ vec_capacity l.challenges;
      batch : (start : ProverState) → IsPlayed setting start begun (map N l.fn.challenges.items) →
          IsPlayed setting start (prover_state_over N (shown_of N l.left l.sum) l.transcript l.sumcheck_data) (map N l.challenges.items);
    }
