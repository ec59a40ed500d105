use Rattle.std.proofs.Common.{◌≡◌, ◌≤◌, length, map, take, vec_capacity}
use Rattle.sc_openings.proofs.weights.embedded.Given as goal

abbrev pub invariant-loop-x : goal.invariant-loop-x
invariant-loop-x g l = record {
  made : length l.images.items ≡ l.x-index;
  room : length l.table ≤ vec_capacity l.images;
  images : map g.EF.Field.number l.images.items ≡ take l.x-index (map (λ x. g.EF.Algebra.embedding (g.F.Field.number x)) l.table);
}
