use Rattle.std.proofs.Common.{arith}
use Rattle.sc_small_fields.specs.ResiduesLaws.{residues_plus, residues_opposite}
use Rattle.sc_small_fields.proofs.f65537.above.Goals as goal

pub returns-clause-number : goal.returns-clause-number
returns-clause-number c = grind (arith, residues_plus, residues_opposite)
