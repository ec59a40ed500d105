use Rattle.std.proofs.Common.{◌≡◌, ◌+◌, map}
use Rattle.sc_definitions.specs.Tables.{sum_below}
use Rattle.sc_table.specs.Polys.{table_of}
use Rattle.sc_degree.specs.Lines.{lines_at}
use Rattle.sc_degree.proofs.table_product.sum_singly.Given as goal

abbrev pub invariant-loop-b : goal.invariant-loop-b
invariant-loop-b g l =
    let e = g.EF.Field in
    let fs = map (table_of e.number) l.tables in
    record { so_far : e.number l.sum ≡ sum_below e.ops l.b (λ b. lines_at e.ops fs b (l.apart + b) (e.number l.x)) }
