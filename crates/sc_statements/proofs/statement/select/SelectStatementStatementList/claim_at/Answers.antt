use Rattle.std.proofs.Common.{ℕ, arith}
use Rattle.sc_statements.proofs.Selecting.{value-inside, claimed-read}
use Rattle.sc_statements.proofs.statement.select.SelectStatementStatementList.claim_at.Goals as goal

pub index-requires : goal.index-requires
index-requires g c =
    let of : g.row.F.Denot → ℕ = λ x. g.EF.Algebra.embedding (g.F.Field.number x) in
    omega (arith, value-inside of g.EF.Field.number c.args.self.now c.args.index c.requires, c.args.self.now.evaluations.ok.0)

pub returns : goal.returns
returns g c =
    let of : g.row.F.Denot → ℕ = λ x. g.EF.Algebra.embedding (g.F.Field.number x) in
    claimed-read of g.EF.Field.number c.args.self.now c.args.index c.requires c.index.result.now c.index.ensures
