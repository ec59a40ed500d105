use Rattle.std.proofs.Common.{◌<◌}
use Rattle.example_matmul.proofs.matrices.product_entry.Given as goal

-- the sum is an element
abbrev pub invariant-loop-x : goal.invariant-loop-x
invariant-loop-x l = l.sum.0 < 65537
