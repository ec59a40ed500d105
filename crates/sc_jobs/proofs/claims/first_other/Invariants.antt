use Rattle.std.proofs.Common.{◌≡◌, ℕ, List, map, drop}
use Rattle.sc_definitions.specs.Statements.{Statement, claimed_values, true_values, first_false_claim}
use Rattle.sc_jobs.proofs.claims.first_other.Given as goal

abbrev pub invariant-loop-i : goal.invariant-loop-i
invariant-loop-i g l =
    let N = g.EF.Field.number in
    let o = g.EF.Field.ops in
    (n : ℕ) (f : ℕ → ℕ) (ss : List Statement) → map N l.claimed ≡ claimed_values ss → map N l.actual ≡ true_values o n f ss →
    first_false_claim o n f 0 ss ≡ first_false_claim o n f l.i (drop l.i ss)
