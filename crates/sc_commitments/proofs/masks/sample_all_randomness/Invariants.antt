use Rattle.std.proofs.Common.{◌≡◌, ◌≤◌, All, length, vec_len, vec_capacity}
use Rattle.sc_commitments.specs.Matrices.{lists_in}
use Rattle.sc_commitments.specs.Draws.{lists_from}
use Rattle.sc_commitments.proofs.masks.sample_all_randomness.Given as goal

abbrev pub invariant-loop-place : goal.invariant-loop-place
invariant-loop-place g l = record {
  numbers : lists_in g.EF.Field.number l.randomness.items ≡ (lists_from (g.Enc.ZkEncoding.randomness_from l.encoding) l._place (g.G.Rng.stream l.initial.rng)).0;
  stream : g.G.Rng.stream l.rng ≡ (lists_from (g.Enc.ZkEncoding.randomness_from l.encoding) l._place (g.G.Rng.stream l.initial.rng)).1;
  lengths : All (λ u. length u.items ≡ g.Enc.ZkEncoding.randomness_length l.encoding) l.randomness.items;
  count : vec_len l.randomness ≡ l._place;
  room : l.count ≤ vec_capacity l.randomness;
}
