use Rattle.std.proofs.Common.{◌<◌}
use Rattle.example_openings.proofs.openings.weigh.Given as goal

-- the sum is an element
abbrev pub invariant-loop-opening : goal.invariant-loop-opening
invariant-loop-opening l = l.sum.0 < 65537
