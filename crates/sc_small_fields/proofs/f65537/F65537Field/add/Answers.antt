use Rattle.std.proofs.Common.{arith}
use Rattle.sc_small_fields.specs.ResiduesLaws.{residues_plus}
use Rattle.sc_small_fields.proofs.f65537.F65537Field.add.Goals as goal

-- the sum, less the modulus where it reaches it
pub returns : goal.returns
returns c = grind (arith, residues_plus)
