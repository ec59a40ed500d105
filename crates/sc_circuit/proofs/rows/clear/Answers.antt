use Rattle.std.proofs.Common.{◌∙◌, ap, arith}
use Rattle.sc_circuit.proofs.RowLaws.{written-next}
use Rattle.sc_circuit.proofs.rows.clear.Goals as goal

pub loop-b-preserved : goal.loop-b-preserved
loop-b-preserved g c =
    let e = g.EF.Field in
    written-next e.number (λ b. 0) c.loop-b.b c.args.rows.now c.loop-b.rows c.ZERO.result (omega arith) c.loop-b.invariant
    (ap e.number c.ZERO.ensures ∙ g.met.EF.Field.zero_is)
