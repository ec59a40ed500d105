use Rattle.std.proofs.Common.{ℕ, arith}
use Rattle.sc_statements.specs.SelectStatements.{select_kinds}
use Rattle.sc_statements.proofs.Selecting.{value-inside}
use Rattle.sc_statements.proofs.ClaimLaws.{claims_of-set}
use Rattle.sc_statements.proofs.statement.select.SelectStatementStatementList.claim.Goals as goal

pub index_mut-requires : goal.index_mut-requires
index_mut-requires g c =
    let of : g.row.F.Denot → ℕ = λ x. g.EF.Algebra.embedding (g.F.Field.number x) in
    omega (arith, value-inside of g.EF.Field.number c.args.self.now c.args.index c.requires, c.args.self.now.evaluations.ok.0)

-- the scalars and the points stay
pub returns-clause-statements : goal.returns-clause-statements
returns-clause-statements g c =
    let of : g.row.F.Denot → ℕ = λ x. g.EF.Algebra.embedding (g.F.Field.number x) in
    let self = c.args.self.now in
    claims_of-set g.EF.Field.number (select_kinds of self) self.evaluations.items c.args.index c.args.value
