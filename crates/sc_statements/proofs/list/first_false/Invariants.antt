use Rattle.std.proofs.Common.{◌≡◌, drop}
use Rattle.sc_definitions.specs.Tables.{entries}
use Rattle.sc_definitions.specs.Statements.{first_false_claim}
use Rattle.sc_statements.proofs.list.first_false.Given as goal

abbrev pub invariant-loop-i : goal.invariant-loop-i
invariant-loop-i g l =
    let find = first_false_claim g.EF.Field.ops (g.S.StatementList.arity l.statements) (λ b. g.EF.Algebra.embedding (entries g.A.Field.number l.rows b)) in
    let ss = g.S.StatementList.statements l.statements in
    find 0 ss ≡ find l.i (drop l.i ss)
