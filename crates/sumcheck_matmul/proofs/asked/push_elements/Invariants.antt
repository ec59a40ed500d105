use Rattle.std.proofs.Common.{◌≡◌, ◌++◌, map, take}
use Rattle.sumcheck_matmul.proofs.asked.push_elements.Given as goal

abbrev pub invariant-loop-x : goal.invariant-loop-x
invariant-loop-x g l = map g.F.Field.number l.values.items ≡ map g.F.Field.number l.fn.values.items ++ take l.x-index l.numbers
