use Rattle.std.proofs.Common.{◌≡◌, ℕ, length, Some, sym, ◌∙◌, ap, arith, Vec}
use Rattle.std.specs.Global.{Global}
use Rattle.sc_openings.specs.Shapes.{length_fault}
use Rattle.sc_openings.specs.declared.error.MergeError.TheVariants.{TableLength}
use Rattle.sc_openings.proofs.ShapeLaws.{fault-next, fault-here, fault-end, length-right, length-wrong}
use Rattle.sc_openings.proofs.shape.check_lengths.Goals as goal

-- a table of another length
pub returns-then-len-rows : goal.returns-then-len-rows
returns-then-len-rows g c = λ n rows.
    let i = c.loop-table.table in
    let t = c.index-tables-table.result in
    let of : Vec g.row.F.Denot Global → ℕ = λ t. length t.items in
    let len : c.len-len.result ≡ length t.items = c.len-len.ensures ∙ t.ok.0 in
    let wrong = length-wrong n i (length t.items) (λ e. c.if-len-rows.true (len ∙ e ∙ sym rows)) in
    ap (λ k. Some (TableLength i k)) len
    ∙ sym (c.loop-table.invariant n rows ∙ fault-here (length_fault n) of i c.args.tables.now t (TableLength i (length t.items)) c.loop-table-test.true c.index-tables-table.is wrong)

pub loop-table-preserved : goal.loop-table-preserved
loop-table-preserved g c = λ n rows.
    let i = c.loop-table.table in
    let t = c.index-tables-table.result in
    let of : Vec g.row.F.Denot Global → ℕ = λ t. length t.items in
    let right = length-right n i (length t.items) (sym t.ok.0 ∙ sym c.len-len.ensures ∙ c.if-len-rows.false ∙ rows) in
    c.loop-table.invariant n rows ∙ fault-next (length_fault n) of i c.args.tables.now t c.loop-table-test.true c.index-tables-table.is right

pub returns : goal.returns
returns g c = λ n rows.
    let of : Vec g.row.F.Denot Global → ℕ = λ t. length t.items in
    sym (c.loop-table.invariant n rows ∙ fault-end (length_fault n) of c.loop-table.table c.args.tables.now (omega (arith, c.loop-table-test.false)))
