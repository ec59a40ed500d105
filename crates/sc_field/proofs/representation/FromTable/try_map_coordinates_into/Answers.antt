use Rattle.std.proofs.Common.{rules}
use Rattle.sc_field.proofs.representation.FromTable.try_map_coordinates_into.Goals as goal

-- there is no faster map
pub returns-clause-answer : goal.returns-clause-answer
returns-clause-answer g c = search rules
