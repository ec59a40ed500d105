use Rattle.sc_table.specs.Polys.{variables_of}
use Rattle.sc_partials.proofs.PartialTables.{slice-numbers}
use Rattle.sc_partials.proofs.next_partials.NextPartials.carry.Goals as goal

pub returns : goal.returns
returns g c = slice-numbers g.EF.Field.number c.as_slice.result.now (variables_of c.args.self.now.carry) _ c.as_slice.ensures.size c.as_slice.ensures.numbers
