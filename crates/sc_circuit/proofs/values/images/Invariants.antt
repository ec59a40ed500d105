use Rattle.std.proofs.Common.{◌≡◌, map, take}
use Rattle.sc_circuit.proofs.values.images.Given as goal

abbrev pub invariant-loop-value : goal.invariant-loop-value
invariant-loop-value g l =
    map g.EF.Field.number l.images.items ≡ map g.EF.Algebra.embedding (map g.F.Field.number (take l.value-index l.values))
