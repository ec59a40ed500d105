use Rattle.std.proofs.Common.{length}
use Rattle.sc_weights.proofs.next.+add_slots_by_halves.Given as goal

abbrev pub decreases-add_slots_by_halves : goal.decreases-add_slots_by_halves
decreases-add_slots_by_halves g l = length l.selector.now
