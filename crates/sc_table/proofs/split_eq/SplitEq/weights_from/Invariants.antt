use Rattle.std.proofs.Common.{◌≡◌, ℕ, ◌+◌, ◌<◌}
use Rattle.sc_definitions.specs.Tables.{entries}
use Rattle.sc_table.specs.SplitEqs.{split_weight}
use Rattle.sc_table.proofs.split_eq.SplitEq.weights_from.Given as goal

abbrev pub invariant-loop-k : goal.invariant-loop-k
invariant-loop-k g l =
    let f = g.EF.Field in
    record { written : (b : ℕ) → b < l.k → entries f.number l.weights b ≡ split_weight f.number f.ops l.self (l.from + b) }
