use Rattle.std.proofs.Common.{◌≡◌, length, All}
use Rattle.sc_degree_tests.proofs.tests.turns.messages.Given as goal

abbrev pub invariant-loop-round : goal.invariant-loop-round
invariant-loop-round g l = (length l.list.items ≡ l.round-index) × All (λ m. length m.items ≡ 2) l.list.items
