use Rattle.std.proofs.Common.{◌++◌, map, ap, ◌∙◌, arith}
use Rattle.sumcheck_matmul.proofs.AskedLaws.{entries-more}
use Rattle.sumcheck_matmul.proofs.asked.entries_of.Goals as goal

pub loop-row-preserved : goal.loop-row-preserved
loop-row-preserved g c =
    let N = g.F.Field.number in
    entries-more N c.loop-row.values.items c.push_elements.new.values.items c.args.rows.now c.row-item.result c.loop-row.row-index (omega arith) c.row-item.is c.loop-row.invariant
    (c.in_ok-push_elements.ensures ∙ ap (λ r. map N c.loop-row.values.items ++ r) c.as_slice.ensures)
