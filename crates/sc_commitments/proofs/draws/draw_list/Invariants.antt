use Rattle.std.proofs.Common.{◌≡◌, ◌≤◌, map, vec_len, vec_capacity}
use Rattle.sc_commitments.specs.Draws.{draws_from}
use Rattle.sc_commitments.proofs.draws.draw_list.Given as goal

abbrev pub invariant-loop-place : goal.invariant-loop-place
invariant-loop-place g l = record {
  numbers : map g.EF.Field.number l.drawn.items ≡ (draws_from g.EF.Field.ops.size l._place (g.G.Rng.stream l.initial.rng)).0;
  stream : g.G.Rng.stream l.rng ≡ (draws_from g.EF.Field.ops.size l._place (g.G.Rng.stream l.initial.rng)).1;
  count : vec_len l.drawn ≡ l._place;
  room : l.count ≤ vec_capacity l.drawn;
}
