use Rattle.sc_statements.specs.NextStatements.{next_kind}
use Rattle.sc_statements.proofs.Evaluations.{read-evaluated}
use Rattle.sc_statements.proofs.statement.next.NextStatementStatementList.claim_at.Goals as goal

pub returns : goal.returns
returns g c =
    let f = g.EF.Field in
    read-evaluated (next_kind f.number) f.number (λ s. s.claimed) c.args.self.now.constraints.items c.args.index c.index.result.now c.requires c.index.ensures
