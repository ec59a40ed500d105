use Rattle.std.proofs.Common.{◌≡◌, ◌≤◌, All, length, vec_len, vec_capacity}
use Rattle.sc_commitments.specs.Matrices.{lists_in}
use Rattle.sc_commitments.specs.Draws.{lists_from}
use Rattle.sc_commitments.proofs.masks.sample_messages.Given as goal

abbrev pub invariant-loop-place : goal.invariant-loop-place
invariant-loop-place g l = record {
  numbers : lists_in g.EF.Field.number l.messages.items ≡ (lists_from (g.Enc.ZkEncoding.message_from l.encoding) l._place (g.G.Rng.stream l.initial.rng)).0;
  stream : g.G.Rng.stream l.rng ≡ (lists_from (g.Enc.ZkEncoding.message_from l.encoding) l._place (g.G.Rng.stream l.initial.rng)).1;
  lengths : All (λ u. length u.items ≡ g.Enc.ZkEncoding.message_length l.encoding) l.messages.items;
  count : vec_len l.messages ≡ l._place;
  room : l.count ≤ vec_capacity l.messages;
}
