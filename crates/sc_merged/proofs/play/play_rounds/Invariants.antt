use Rattle.std.proofs.Common.{◌≡◌, ◌+◌, ◌≤◌, length, map, vec_capacity}
use Rattle.sc_transcript.specs.Drivers.{channel_of, Continues}
use Rattle.sc_transcript.specs.Transcripts.{driver_in}
use Rattle.sc_merged.specs.MergedViews.{left_in}
use Rattle.sc_merged.specs.MergedPlays.{prover_state_in, ArePlayed}
use Rattle.sc_merged.proofs.play.play_rounds.Given as goal

abbrev pub invariant-loop-round : goal.invariant-loop-round
invariant-loop-round g l =
    let base = g.F.Field.number in
    let e = g.EF.Field in
    let begun = driver_in l.fn.transcript in
    record {
      continues : Continues begun (driver_in l.transcript);
      count : (driver_in l.transcript).played ≡ l._round;
      left : left_in l.tables + l._round ≡ left_in l.fn.tables;
      made : length l.challenges.items ≡ l._round;
      room : (driver_in l.fn.transcript).shape.num_rounds ≤ vec_capacity l.challenges;
      played : ArePlayed e.ops (channel_of g.EF.ExtensionField.extension begun) (prover_state_in base e.number l.fn.tables l.fn.sumcheck_data begun.history)
          (prover_state_in base e.number l.tables l.sumcheck_data (driver_in l.transcript).history) (map e.number l.challenges.items);
    }
