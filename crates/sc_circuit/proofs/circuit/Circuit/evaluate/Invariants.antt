use Rattle.std.proofs.Common.{◌≡◌, ◌≤◌, map, drop, reverse, length}
use Rattle.sc_circuit_definitions.specs.Circuits.{all_values}
use Rattle.sc_circuit.proofs.circuit.Circuit.evaluate.Given as goal

abbrev pub decreases-loop-layer : goal.decreases-loop-layer
decreases-loop-layer g l = l.layer

-- the values of the layers from this one on, the inputs first
abbrev pub invariant-loop-layer : goal.invariant-loop-layer
invariant-loop-layer g l =
    let f = g.F.Field in
    record {
      down : l.layer ≤ length l.self.layers.items;
      rows : map (λ row. map f.number row) l.rows.items
          ≡ reverse (all_values f.ops (drop l.layer (map (λ gates. gates.items) l.self.layers.items)) (map f.number l.inputs));
    }
