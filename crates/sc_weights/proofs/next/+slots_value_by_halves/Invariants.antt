use Rattle.std.proofs.Common.{length}
use Rattle.sc_weights.proofs.next.+slots_value_by_halves.Given as goal

abbrev pub decreases-slots_value_by_halves : goal.decreases-slots_value_by_halves
decreases-slots_value_by_halves g l = length l.selector.now
