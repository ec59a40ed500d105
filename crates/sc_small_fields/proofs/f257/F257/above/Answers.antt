use Rattle.std.proofs.Common.{arith}
use Rattle.sc_small_fields.specs.F257Laws.{f257_plus, f257_opposite}
use Rattle.sc_small_fields.proofs.f257.F257.above.Goals as goal

pub returns-clause-number : goal.returns-clause-number
returns-clause-number c = grind (arith, f257_plus, f257_opposite)
