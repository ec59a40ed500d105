use Rattle.std.proofs.Common.{◌≡◌, ◌≤◌, map, vec_len, vec_capacity}
use Rattle.sc_definitions.specs.Channels.{channel, verifier_state}
use Rattle.sc_transcript.specs.Walks.{walk, first_of, IsWalked}
use Rattle.sc_transcript.proofs.replay.replay.Given as goal

abbrev pub invariant-rounds : goal.invariant-rounds
invariant-rounds g l =
    let R = λ (x : g.row.C.Denot). (g.C.Challenger.party x).rules in
    let H = λ (x : g.row.C.Denot). (g.C.Challenger.party x).history in
    let N = g.EF.Field.number in
    record {
      rules : R l.challenger ≡ R l.fn.challenger;
      walked : IsWalked (first_of l.i (walk (g.R.CameRounds.next l.came) (channel (R l.fn.challenger) g.EF.ExtensionField.extension g.F.Field.ops.size l.fn.shape.pow_bits) l.fn.shape.width
          (verifier_state (H l.fn.challenger) (N l.fn.claim)) (g.R.CameRounds.rounds l.came)))
          (map N l.challenges.items) (verifier_state (H l.challenger) (N l.claim));
      shape : l.rounds.shape ≡ l.fn.shape;
      played : l.rounds.played ≡ l.i;
      len : vec_len l.challenges ≡ l.i;
      room : l.fn.shape.num_rounds ≤ vec_capacity l.challenges;
    }
