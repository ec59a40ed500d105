use Rattle.sc_statements.proofs.RowLaws.{digits-are_rows, value-row, weight-row, batch-row}
use Rattle.sc_constraints.proofs.laws.row_laws.Goals as goal

pub returns-clause-digits : goal.returns-clause-digits
returns-clause-digits g c = digits-are_rows g.EF.Field.ops g.met.EF.Field.is_field.ring

pub returns-clause-tables : goal.returns-clause-tables
returns-clause-tables g c = value-row g.EF.Field.ops g.met.EF.Field.is_field.ring

pub returns-clause-weights : goal.returns-clause-weights
returns-clause-weights g c = weight-row g.EF.Field.ops g.met.EF.Field.is_field.ring

pub returns-clause-batches : goal.returns-clause-batches
returns-clause-batches g c = batch-row g.EF.Field.ops g.met.EF.Field.is_field.ring
