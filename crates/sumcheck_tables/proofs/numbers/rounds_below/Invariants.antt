use Rattle.std.proofs.Common.{◌≡◌, true, map, take}
use Rattle.std.specs.List.{list_all}
use Rattle.sumcheck_tables.specs.Tables.{are_below}
use Rattle.sumcheck_tables.specs.Views.{numbers_in}
use Rattle.sumcheck_tables.proofs.numbers.rounds_below.Given as goal

abbrev pub invariant-loop-round : goal.invariant-loop-round
invariant-loop-round l = list_all (are_below l.size) (map numbers_in (take l.round-index l.rounds)) ≡ true
