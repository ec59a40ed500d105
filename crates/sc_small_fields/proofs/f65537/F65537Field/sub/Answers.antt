use Rattle.std.proofs.Common.{arith}
use Rattle.sc_small_fields.specs.ResiduesLaws.{residues_plus, residues_opposite}
use Rattle.sc_small_fields.proofs.f65537.F65537Field.sub.Goals as goal

-- the difference, and the modulus where it falls below zero
pub returns : goal.returns
returns c = grind (arith, residues_plus, residues_opposite)
