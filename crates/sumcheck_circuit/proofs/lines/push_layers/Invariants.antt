use Rattle.std.proofs.Common.{◌≡◌, ◌++◌, map, take, string_bytes}
use Rattle.sc_circuit.specs.Runs.{layer_in}
use Rattle.sumcheck_circuit.specs.CircuitLines.{layers_lines}
use Rattle.sumcheck_circuit.proofs.lines.push_layers.Given as goal

abbrev pub invariant-loop-i : goal.invariant-loop-i
invariant-loop-i g l =
    let N = g.EF.Field.number in
    string_bytes l.text
    ≡ string_bytes l.fn.text ++ layers_lines 0 (map (layer_in g.F.Field.number N) (take l.i l.layers)) (map (λ rs. map N rs) (take l.i l.challenges)) (map N (take l.i l.merges))
