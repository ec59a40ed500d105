use Rattle.std.proofs.Common.{◌<◌}
use Rattle.example_openings.proofs.columns.sums_of_squares.Given as goal

-- the sum is an element
abbrev pub invariant-loop-row : goal.invariant-loop-row
invariant-loop-row l = l.sum.0 < 65537
