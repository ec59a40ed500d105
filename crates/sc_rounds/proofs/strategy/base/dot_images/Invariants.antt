use Rattle.std.proofs.Common.{◌≡◌}
use Rattle.sc_definitions.specs.Ring.{times}
use Rattle.sc_definitions.specs.Tables.{entries, sum_below}
use Rattle.sc_rounds.proofs.strategy.base.dot_images.Given as goal

abbrev pub invariant-loop-i : goal.invariant-loop-i
invariant-loop-i g l =
    let o = g.EF.Field.ops in
    let N = g.EF.Field.number in
    N l.sum ≡ sum_below o l.i (λ b. times o (entries (λ x. g.EF.Algebra.embedding (g.F.Field.number x)) l.evals b) (entries N l.values b))
