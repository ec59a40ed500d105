use Rattle.sc_definitions.specs.Tables.{entries}
use Rattle.sc_statements.proofs.ExcessLaws.{HasGained}
use Rattle.sc_statements.proofs.list.push_excesses.Given as goal

abbrev pub invariant-loop-i : goal.invariant-loop-i
invariant-loop-i g l =
    let list = g.S.StatementList in
    HasGained g.EF.Field.number g.EF.Field.ops (list.arity l.statements) (λ b. g.EF.Algebra.embedding (entries g.A.Field.number l.rows b)) (list.statements l.statements) l.i
    l.fn.excesses.items l.excesses.items
