use Rattle.std.proofs.Common.{◌∙◌}
use Rattle.sc_definitions.specs.Residues.{residues}
use Rattle.sc_small_fields.specs.F257Laws.{f257_field}
use Rattle.sc_small_fields.specs.QuadraticLaws.{same_pair}
use Rattle.sc_small_fields.proofs.PairLaws.{element_pair}
use Rattle.sc_small_fields.proofs.f257x2.F257x2Field.element.Goals as goal

pub returns : goal.returns
returns c = same_pair (residues 257) f257_field.ring c.element.ensures c.element-2.ensures ∙ element_pair c.args.index
