use Rattle.std.proofs.Common.{ℕ, ◌^◌, ◌<◌, ◌∙◌, sym, ap, subst}
use Rattle.sc_definitions.specs.Ring.{plus, times}
use Rattle.sc_definitions.specs.Statements.{weight_of}
use Rattle.sc_table.specs.Polys.{table_of}
use Rattle.sc_statements.proofs.Selecting.{selects-read}
use Rattle.sc_statements.proofs.statement.select.SelectStatementStatementList.add_weights.Goals as goal

pub returns-clause-table : goal.returns-clause-table
returns-clause-table g c = λ b low.
    let f = g.EF.Field in
    let of : g.row.F.Denot → ℕ = λ x. g.EF.Algebra.embedding (g.F.Field.number x) in
    c.add_to.ensures.table b (subst (λ n. b < 2 ^ n) (sym c.requires.arity) low)
    ∙ ap (λ w. plus f.ops (table_of f.number c.args.table.now b) (times f.ops (f.number c.args.scale) w))
    (selects-read of f.number c.args.self.now c.args.index c.requires.index (λ s. weight_of f.ops s.kind b) c.selector.result c.selector.ensures.kind)
