use Rattle.std.proofs.Common.{length}
use Rattle.sc_partials.proofs.partials.+push_partials.Given as goal

abbrev pub decreases-push_partials : goal.decreases-push_partials
decreases-push_partials g l = length l.kept.now
