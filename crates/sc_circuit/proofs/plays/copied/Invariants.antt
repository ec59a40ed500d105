use Rattle.std.proofs.Common.{◌≡◌, map, take}
use Rattle.sc_circuit.specs.Runs.{layer_in}
use Rattle.sc_circuit.proofs.plays.copied.Given as goal

-- the layers so far
abbrev pub invariant-loop-layer : goal.invariant-loop-layer
invariant-loop-layer g l =
    map (layer_in g.F.Field.number g.EF.Field.number) l.found.items ≡ map (layer_in g.F.Field.number g.EF.Field.number) (take l.layer-index l.layers)
