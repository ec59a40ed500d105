use Rattle.std.proofs.Common.{length}
use Rattle.sc_partials.proofs.next_partials.+push_next_partials.Given as goal

-- fewer variables are kept
abbrev pub decreases-push_next_partials : goal.decreases-push_next_partials
decreases-push_next_partials g l = length l.kept.now
