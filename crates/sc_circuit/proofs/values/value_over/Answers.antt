use Rattle.std.proofs.Common.{sym, ◌∙◌, ap}
use Rattle.sc_definitions.specs.Ring.{plus, times}
use Rattle.sc_definitions.specs.Tables.{entries, rows_of}
use Rattle.sc_definitions.proofs.LoopLaws.{entry-read}
use Rattle.sc_circuit_definitions.specs.Circuits.{gate_value}
use Rattle.sc_circuit.proofs.values.value_over.Goals as goal

pub returns-then-gate : goal.returns-then-gate
unfolding gate_value entries rows_of
returns-then-gate g c =
    let N = g.F.Field.number in
    let below = c.args.below.now in
    let left = entry-read N below c.args.gate.left c.index-below-gate.result c.requires.left c.index-below-gate.is in
    let right = entry-read N below c.args.gate.right c.index-below-gate-2.result c.requires.right c.index-below-gate-2.is in
    rw c.if-gate.true (c.mul.ensures ∙ ap (λ x. times g.F.Field.ops x (N c.index-below-gate-2.result)) (sym left) ∙ ap (times g.F.Field.ops (entries N below c.args.gate.left)) (sym right))

pub returns-else-gate : goal.returns-else-gate
unfolding gate_value entries rows_of
returns-else-gate g c =
    let N = g.F.Field.number in
    let below = c.args.below.now in
    let left = entry-read N below c.args.gate.left c.index-below-gate.result c.requires.left c.index-below-gate.is in
    let right = entry-read N below c.args.gate.right c.index-below-gate-2.result c.requires.right c.index-below-gate-2.is in
    rw c.if-gate.false (c.add.ensures ∙ ap (λ x. plus g.F.Field.ops x (N c.index-below-gate-2.result)) (sym left) ∙ ap (plus g.F.Field.ops (entries N below c.args.gate.left)) (sym right))
