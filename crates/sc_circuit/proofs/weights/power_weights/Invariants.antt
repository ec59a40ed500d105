use Rattle.std.proofs.Common.{◌≡◌, ◌<◌, ℕ, length}
use Rattle.sc_definitions.specs.Ring.{power}
use Rattle.sc_definitions.specs.Tables.{entries}
use Rattle.sc_circuit.proofs.weights.power_weights.Given as goal

-- the powers so far, and the next one
abbrev pub invariant-loop-gate : goal.invariant-loop-gate
invariant-loop-gate g l =
    let e = g.EF.Field in
    record {
      len : length l.weights.items ≡ l._gate;
      powers : (i : ℕ) → i < l._gate → entries e.number l.weights.items i ≡ power e.ops (e.number l.challenge) i;
      next : e.number l.power ≡ power e.ops (e.number l.challenge) l._gate;
    }
