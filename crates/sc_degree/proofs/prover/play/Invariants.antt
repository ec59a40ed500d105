use Rattle.std.proofs.Common.{◌≡◌}
use Rattle.sc_transcript.specs.Drivers.{channel_of, Continues}
use Rattle.sc_transcript.specs.Transcripts.{driver_in}
use Rattle.sc_degree.specs.Plays.{IsReady, playing, Progresses}
use Rattle.sc_degree.proofs.prover.play.Given as goal

abbrev pub invariant-loop-round : goal.invariant-loop-round
invariant-loop-round g l =
    let at = playing g.F.Field.number g.EF.Field.number in
    let prover = g.P.RoundProver.meaning in
    let begun = driver_in l.fn.transcript in
    record {
      continues : Continues begun (driver_in l.transcript);
      count : (driver_in l.transcript).played ≡ l._round;
      ready : IsReady g.EF.Field.ops.size (driver_in l.transcript) (prover l.prover) l.played;
      played : Progresses g.EF.Field.ops (channel_of g.EF.ExtensionField.extension begun) (at begun (prover l.fn.prover) l.fn.played) (at (driver_in l.transcript) (prover l.prover) l.played);
    }
