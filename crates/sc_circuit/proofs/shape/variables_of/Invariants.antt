use Rattle.std.proofs.Common.{◌≡◌, ◌<◌, ◌^◌, ◌==◌, ℕ, false}
use Rattle.sc_circuit.proofs.shape.variables_of.Given as goal

-- no smaller power is it
abbrev pub invariant-loop-k : goal.invariant-loop-k
invariant-loop-k l = (j : ℕ) → j < l.k → (l.len == 2 ^ j) ≡ false
