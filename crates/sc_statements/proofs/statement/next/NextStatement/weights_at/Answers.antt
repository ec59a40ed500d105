use Rattle.std.proofs.Common.{map, ◌∙◌}
use Rattle.sc_statements.specs.NextStatements.{next_statements}
use Rattle.sc_statements.proofs.RowLaws.{weights-row}
use Rattle.sc_statements.proofs.statement.next.NextStatement.weights_at.Goals as goal

pub returns-clause-at_rows : goal.returns-clause-at_rows
returns-clause-at_rows g c = λ row. c.new.ensures ∙ weights-row g.EF.Field.ops g.met.EF.Field.is_field.ring (map g.EF.Field.number c.args.row.now) (next_statements g.EF.Field.number c.args.self.now) row
