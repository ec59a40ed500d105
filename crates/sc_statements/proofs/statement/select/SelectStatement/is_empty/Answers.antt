use Rattle.std.proofs.Common.{ℕ, vec_len, sym, ◌∙◌}
use Rattle.sc_statements.proofs.Selecting.{select-length, empty-test}
use Rattle.sc_statements.proofs.statement.select.SelectStatement.is_empty.Goals as goal

pub returns : goal.returns
returns g c =
    let of : g.row.F.Denot → ℕ = λ x. g.EF.Algebra.embedding (g.F.Field.number x) in
    let self = c.args.self.now in
    let size = select-length of g.EF.Field.number self in
    empty-test _ (vec_len self.evaluations) _ c.is_empty.ensures (size ∙ sym self.evaluations.ok.0)
