use Rattle.std.proofs.Common.{rules}
use Rattle.sc_field.proofs.algebra.AnyExtensionField.with_part.Goals as goal

-- an element is its own only part
pub returns : goal.returns
returns g c = search rules
