use Rattle.sc_partials.specs.Staged.{HasDifferences}
use Rattle.sc_partials.proofs.staged.push_differences.Given as goal

abbrev pub invariant-loop-k : goal.invariant-loop-k
invariant-loop-k g l = HasDifferences g.EF.Field.number g.EF.Field.ops l.low l.high l.initial.values.items l.k l.values.items
