use Rattle.std.proofs.Common.{◌≡◌, length, map, take, vec_capacity}
use Rattle.sumcheck_tables.proofs.numbers.elements.Given as goal

abbrev pub invariant-loop-n : goal.invariant-loop-n
invariant-loop-n g l = record {
  values : map g.F.Field.number l.found.items ≡ take l.n-index l.numbers;
  count : length l.found.items ≡ l.n-index;
  room : vec_capacity l.found ≡ length l.numbers;
}
