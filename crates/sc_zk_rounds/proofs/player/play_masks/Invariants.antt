use Rattle.std.proofs.Common.{◌≡◌, ◌+◌, ◌≤◌, map, vec_len, vec_capacity}
use Rattle.sc_definitions.specs.ProverViews.{KeepsForm, setting_at, prover_state_at}
use Rattle.sc_challenger.specs.Parties.{channel_by}
use Rattle.sc_zk_definitions.specs.MaskedRuns.{Masking, IsMasked}
use Rattle.sc_zk_rounds.specs.Data.{masked_wire_in}
use Rattle.sc_zk_rounds.specs.Mixings.{IsMixing}
use Rattle.sc_zk_rounds.specs.Rounds.{AreMasks}
use Rattle.sc_zk_rounds.proofs.player.play_masks.Given as goal

abbrev pub invariant-loop-i : goal.invariant-loop-i
invariant-loop-i g l =
    let o = g.EF.Field.ops in
    let N = g.EF.Field.number in
    let P = g.C.Challenger.party in
    let s = setting_at (channel_by (P l.fn.challenger) g.EF.ExtensionField.extension g.F.Field.ops.size l.fn.shape.pow_bits) o (g.P.PlainRounds.shown l.fn.prover) in
    let begun = prover_state_at (g.P.PlainRounds.shown l.fn.prover) (P l.fn.challenger).history (masked_wire_in g.F.Field.number N l.fn.zk_data) in
    let now = prover_state_at (g.P.PlainRounds.shown l.prover) (P l.challenger).history (masked_wire_in g.F.Field.number N l.zk_data) in
    let rs = map N l.challenges.items in
    record {
      rules : (P l.challenger).rules ≡ (P l.fn.challenger).rules;
      shape : l.rounds.shape ≡ l.fn.shape;
      played : l.rounds.played ≡ l.i;
      left : g.P.PlainRounds.left l.prover + l.i ≡ g.P.PlainRounds.left l.fn.prover;
      form : KeepsForm (g.P.PlainRounds.shown l.fn.prover) (g.P.PlainRounds.shown l.prover);
      total : l.zk_data.mu_tilde ≡ l.fn.zk_data.mu_tilde;
      count : vec_len l.challenges ≡ l.i;
      room : l.fn.shape.num_rounds ≤ vec_capacity l.challenges;
      batch : (k : Masking) → AreMasks o N k l.masks l.eps l.fn.mixing → IsMasked s k begun now rs;
      mixed : (k : Masking) → AreMasks o N k l.masks l.eps l.fn.mixing → IsMixing o N k rs l.mixing;
    }
