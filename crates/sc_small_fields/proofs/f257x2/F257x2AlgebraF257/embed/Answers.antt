use Rattle.sc_definitions.specs.Residues.{residues}
use Rattle.sc_small_fields.specs.F257Laws.{f257_field}
use Rattle.sc_small_fields.specs.QuadraticLaws.{pair-none}
use Rattle.sc_small_fields.proofs.f257x2.F257x2AlgebraF257.embed.Goals as goal

pub returns : goal.returns
returns c = pair-none (residues 257) f257_field.ring c.args.b.value
