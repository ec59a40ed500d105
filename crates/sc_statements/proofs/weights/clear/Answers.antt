use Rattle.std.proofs.Common.{◌≢◌, ◌<◌, length, ◌∙◌, ap, arith, below_more}
use Rattle.sc_table.proofs.EntryLaws.{entry-set_same, entry-set_other}
use Rattle.sc_statements.proofs.weights.clear.Goals as goal

pub loop-row-preserved : goal.loop-row-preserved
loop-row-preserved g c =
    let f = g.EF.Field in
    let rows = c.loop-row.row-items in
    let i = c.loop-row.row-index in
    below_more _ _
    (λ b low. let apart : b ≢ i = omega (arith, low) in entry-set_other f.number rows i b c.ZERO.result apart ∙ c.loop-row.invariant b low)
    (let low : i < length rows = omega arith in entry-set_same f.number rows i c.ZERO.result low ∙ ap f.number c.ZERO.ensures ∙ g.met.EF.Field.zero_is)
