use Rattle.std.proofs.Common.{ℕ, sym, ◌∙◌}
use Rattle.sc_statements.proofs.Selecting.{select-length}
use Rattle.sc_statements.proofs.statement.select.SelectStatementStatementList.count.Goals as goal

pub returns : goal.returns
returns g c =
    let of : g.row.F.Denot → ℕ = λ x. g.EF.Algebra.embedding (g.F.Field.number x) in
    c.len.ensures ∙ c.args.self.now.evaluations.ok.0 ∙ sym (select-length of g.EF.Field.number c.args.self.now)
