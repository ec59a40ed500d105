use Rattle.std.proofs.Common.{◌≡◌, map, take}
use Rattle.std.specs.List.{concat}
use Rattle.sumcheck_matmul.proofs.asked.entries_of.Given as goal

abbrev pub invariant-loop-row : goal.invariant-loop-row
invariant-loop-row g l = map g.F.Field.number l.values.items ≡ concat (take l.row-index l.rows)
