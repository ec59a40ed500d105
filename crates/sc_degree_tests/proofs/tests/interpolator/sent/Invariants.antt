use Rattle.std.proofs.Common.{◌≡◌, vec_len}
use Rattle.sc_degree_tests.proofs.tests.interpolator.sent.Given as goal

abbrev pub invariant-loop-index : goal.invariant-loop-index
invariant-loop-index g l = vec_len l.values ≡ l.index
