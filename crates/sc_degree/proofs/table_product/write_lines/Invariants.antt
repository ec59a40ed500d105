use Rattle.sc_definitions.specs.Tables.{entries}
use Rattle.sc_table.specs.Blocks.{HasWritten}
use Rattle.sc_degree.specs.Lines.{line_at}
use Rattle.sc_degree.proofs.table_product.write_lines.Given as goal

abbrev pub invariant-loop-b : goal.invariant-loop-b
invariant-loop-b g l =
    let e = g.EF.Field in
    HasWritten e.number (λ b. line_at e.ops (entries e.number l.low b) (entries e.number l.high b) (e.number l.x)) 0 l.b l.fn.lines l.lines
