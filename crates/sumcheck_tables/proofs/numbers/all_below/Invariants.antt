use Rattle.std.proofs.Common.{◌≡◌, take}
use Rattle.sumcheck_tables.specs.Tables.{are_below}
use Rattle.sumcheck_tables.proofs.numbers.all_below.Given as goal

abbrev pub invariant-loop-n : goal.invariant-loop-n
invariant-loop-n l = are_below l.size (take l.n-index l.numbers) ≡ l.below
