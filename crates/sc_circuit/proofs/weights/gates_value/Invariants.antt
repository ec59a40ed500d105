use Rattle.std.proofs.Common.{◌≡◌, ℕ, true, false, drop}
use Rattle.sc_definitions.specs.Ring.{plus}
use Rattle.sc_definitions.specs.Tables.{entries}
use Rattle.sc_circuit.specs.Weights.{PlaceWeights, kind_sum}
use Rattle.sc_circuit.proofs.weights.gates_value.Given as goal

-- with the gates so far, what is left of both sums
abbrev pub invariant-loop-index : goal.invariant-loop-index
invariant-loop-index g l =
    let e = g.EF.Field in
    let w : ℕ → ℕ = entries e.number l.weights in
    let p : PlaceWeights = record { first = entries e.number l.first; second = entries e.number l.second } in
    record {
      sums : kind_sum e.ops false w p 0 l.gates ≡ plus e.ops (e.number l.sums) (kind_sum e.ops false w p l.index (drop l.index l.gates));
      products : kind_sum e.ops true w p 0 l.gates ≡ plus e.ops (e.number l.products) (kind_sum e.ops true w p l.index (drop l.index l.gates));
    }
