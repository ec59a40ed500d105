use Rattle.std.proofs.Common.{◌≡◌, ◌≤◌, map, vec_len, vec_capacity}
use Rattle.sc_definitions.specs.Channels.{verifier_state}
use Rattle.sc_definitions.specs.ProverStates.{IsPlayed}
use Rattle.sc_definitions.specs.Problem.{Problem, claim_of}
use Rattle.sc_transcript.specs.Data.{wire_in}
use Rattle.sc_transcript.specs.Drivers.{Continues}
use Rattle.sc_transcript.specs.Transcripts.{driver_in}
use Rattle.sc_svo.specs.Batches.{batch_in}
use Rattle.sc_audit.specs.SmallRounds.{setting_for, begun_for, with_drawn}
use Rattle.sc_jobs.specs.Taken.{IsBatchOf}
use Rattle.sc_audit.proofs.small_value.play_small.Given as goal

abbrev pub invariant-loop-round : goal.invariant-loop-round
invariant-loop-round g l =
    let N = g.EF.Field.number in
    let o = g.EF.Field.ops in
    record {
      continues : Continues (driver_in l.fn.transcript) (driver_in l.transcript);
      played : l.transcript.rounds.played ≡ l._round;
      len : vec_len l.challenges ≡ l._round;
      room : l.transcript.rounds.shape.num_rounds ≤ vec_capacity l.challenges;
      drawn : (p : Problem) → IsBatchOf o p (batch_in l.batch) → N l.fn.sum ≡ claim_of o p →
          IsPlayed (setting_for g.EF.ExtensionField.extension o p l.fn.transcript) (begun_for N o p l.fn.transcript l.fn.sumcheck_data)
          (with_drawn (setting_for g.EF.ExtensionField.extension o p l.fn.transcript) (begun_for N o p l.fn.transcript l.fn.sumcheck_data) (map N l.challenges.items)
          (verifier_state (driver_in l.transcript).history (N l.sum)) (wire_in g.F.Field.number N l.sumcheck_data))
          (map N l.challenges.items);
    }
