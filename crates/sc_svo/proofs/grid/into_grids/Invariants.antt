use Rattle.std.proofs.Common.{◌≡◌, map}
use Rattle.sc_partials.specs.Sums.{sums_shown}
use Rattle.sc_svo.specs.Grids.{grid_shown}
use Rattle.sc_svo.proofs.grid.into_grids.Given as goal

abbrev pub invariant-loop-sum : goal.invariant-loop-sum
invariant-loop-sum g l = map (grid_shown g.EF.Field.number) l.rounds.items ≡ sums_shown g.EF.Field.number l.yielded
