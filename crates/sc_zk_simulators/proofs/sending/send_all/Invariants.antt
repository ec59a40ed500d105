use Rattle.std.proofs.Common.{◌≡◌, ◌≤◌, map, vec_len, vec_capacity}
use Rattle.sc_challenger.specs.Parties.{channel_by}
use Rattle.sc_commitments.specs.Draws.{draws_from, lists_from}
use Rattle.sc_zk_rounds.specs.Data.{masked_wire_in}
use Rattle.sc_zk_simulators.specs.Sendings.{sending, IsUnderWay}
use Rattle.sc_zk_simulators.proofs.sending.send_all.Given as goal

abbrev pub invariant-loop-round : goal.invariant-loop-round
invariant-loop-round g l =
    let o = g.EF.Field.ops in
    let N = g.EF.Field.number in
    let P = g.C.Challenger.party in
    let wire = masked_wire_in g.F.Field.number N l.zk_data in
    let from = draws_from o.size l.fn.shape.width in
    let s = g.G.Rng.stream l.fn.rng in
    record {
      rules : (P l.challenger).rules ≡ (P l.fn.challenger).rules;
      shape : l.rounds.shape ≡ l.fn.shape;
      played : l.rounds.played ≡ l._round;
      total : l.zk_data.mu_tilde ≡ l.fn.zk_data.mu_tilde;
      count : vec_len l.challenges ≡ l._round;
      room : l.fn.shape.num_rounds ≤ vec_capacity l.challenges;
      drawn : wire.messages ≡ (lists_from from l._round s).0;
      left : g.G.Rng.stream l.rng ≡ (lists_from from l._round s).1;
      sent : IsUnderWay (sending (channel_by (P l.fn.challenger) g.EF.ExtensionField.extension g.F.Field.ops.size l.fn.shape.pow_bits) (P l.fn.challenger).history
          (lists_from from l.fn.shape.num_rounds s).0) (map N l.challenges.items) wire (P l.challenger).history;
    }
