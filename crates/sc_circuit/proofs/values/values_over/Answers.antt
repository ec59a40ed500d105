use Rattle.std.proofs.Common.{length}
use Rattle.sc_circuit.proofs.ShapeLaws.{places-at}
use Rattle.sc_circuit.proofs.values.values_over.Goals as goal

pub value_over-requires-clause-left : goal.value_over-requires-clause-left
value_over-requires-clause-left g c =
    (places-at (length c.args.below.now) c.args.gates.now c.loop-gate.gate-index _ c.requires c.loop-gate-test.true).0

pub value_over-requires-clause-right : goal.value_over-requires-clause-right
value_over-requires-clause-right g c =
    (places-at (length c.args.below.now) c.args.gates.now c.loop-gate.gate-index _ c.requires c.loop-gate-test.true).1
