use Rattle.sc_definitions.specs.Ring.{times}
use Rattle.sc_definitions.specs.Tables.{entries}
use Rattle.sc_table.specs.Blocks.{HasWritten}
use Rattle.sc_degree.proofs.table_product.multiply.Given as goal

abbrev pub invariant-loop-b : goal.invariant-loop-b
invariant-loop-b g l =
    let e = g.EF.Field in
    HasWritten e.number (λ b. times e.ops (entries e.number l.fn.products b) (entries e.number l.factors b)) 0 l.b l.fn.products l.products
