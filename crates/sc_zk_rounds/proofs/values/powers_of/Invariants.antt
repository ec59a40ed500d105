use Rattle.std.proofs.Common.{◌≡◌}
use Rattle.sc_zk_definitions.specs.Masks.{powers_below}
use Rattle.sc_commitments.specs.Matrices.{numbers_in}
use Rattle.sc_zk_rounds.proofs.values.powers_of.Given as goal

abbrev pub invariant-loop-i : goal.invariant-loop-i
invariant-loop-i g l = numbers_in g.EF.Field.number l.powers ≡ powers_below g.EF.Field.ops l.i (g.EF.Field.number l.x)
