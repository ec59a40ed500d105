use Rattle.std.proofs.Common.{sym, ◌∙◌}
use Rattle.sc_definitions.proofs.Lengths.{pow-same}
use Rattle.sc_table.specs.Polys.{variables_of}
use Rattle.sc_svo.proofs.batch.SvoBatch.new.Goals as goal

pub returns-clause-arity : goal.returns-clause-arity
returns-clause-arity g c =
    pow-same c.in_ok-batch.batch.variables (variables_of c.args.table.now) (sym c.in_ok-batch.ensures.batch.variables ∙ c.as_slice.ensures.size)
