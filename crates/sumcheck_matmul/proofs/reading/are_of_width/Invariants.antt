use Rattle.std.proofs.Common.{◌≡◌, drop}
use Rattle.sumcheck_matmul.specs.MatmulJob.{of_width}
use Rattle.sumcheck_matmul.proofs.reading.are_of_width.Given as goal

-- the rows so far are of the width
abbrev pub invariant-loop-i : goal.invariant-loop-i
invariant-loop-i l = of_width l.width l.rows ≡ of_width l.width (drop l.i l.rows)
