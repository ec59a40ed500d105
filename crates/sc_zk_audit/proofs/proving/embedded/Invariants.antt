use Rattle.std.proofs.Common.{◌≡◌, length, map, take, vec_capacity}
use Rattle.sc_zk_audit.proofs.proving.embedded.Given as goal

abbrev pub invariant-loop-x : goal.invariant-loop-x
invariant-loop-x g l = record {
  values : map g.EF.Field.number l.images.items ≡ map (λ x. g.EF.Algebra.embedding (g.F.Field.number x)) (take l.x-index l.table);
  count : length l.images.items ≡ l.x-index;
  room : vec_capacity l.images ≡ length l.table;
}
