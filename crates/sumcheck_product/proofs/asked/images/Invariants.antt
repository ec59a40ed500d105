use Rattle.std.proofs.Common.{◌≡◌, length, map, take, vec_capacity}
use Rattle.sumcheck_product.proofs.asked.images.Given as goal

abbrev pub invariant-loop-x : goal.invariant-loop-x
invariant-loop-x g l = record {
  values : map g.EF.Field.number l.found.items ≡ map g.EF.Algebra.embedding (take l.x-index l.numbers);
  count : length l.found.items ≡ l.x-index;
  room : vec_capacity l.found ≡ length l.numbers;
}
