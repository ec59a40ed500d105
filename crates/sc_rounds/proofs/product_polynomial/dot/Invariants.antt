use Rattle.std.proofs.Common.{◌≡◌}
use Rattle.sc_definitions.specs.Ring.{times}
use Rattle.sc_definitions.specs.Tables.{entries, sum_below}
use Rattle.sc_rounds.proofs.product_polynomial.dot.Given as goal

abbrev pub invariant-loop-i : goal.invariant-loop-i
invariant-loop-i g l =
    let o = g.EF.Field.ops in
    let N = g.EF.Field.number in
    N l.sum ≡ sum_below o l.i (λ b. times o (entries N l.left b) (entries (λ x. g.R.FromTable.to_number (g.R.Field.number x)) l.right b))
