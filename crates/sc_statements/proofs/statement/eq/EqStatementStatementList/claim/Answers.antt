use Rattle.std.proofs.Common.{length, refl}
use Rattle.sc_statements.specs.EqStatements.{point_kind}
use Rattle.sc_statements.proofs.Evaluations.{place-inside}
use Rattle.sc_statements.proofs.ClaimLaws.{evaluated-set}
use Rattle.sc_statements.proofs.statement.eq.EqStatementStatementList.claim.Goals as goal

-- what stands at the place keeps its point
pub returns-clause-statements : goal.returns-clause-statements
returns-clause-statements g c =
    let f = g.EF.Field in
    let cs = c.args.self.now.constraints.items in
    let here = c.index_mut.result.now in
    evaluated-set (point_kind f.number) f.number cs c.args.index (record { weights = here.weights; eval = c.args.value }) here
    (place-inside (point_kind f.number) f.number cs (length cs) c.args.index refl c.requires) c.index_mut.ensures.value refl
