use Rattle.std.proofs.Common.{◌≡◌, ℕ, ◌<◌, false}
use Rattle.sc_challenger.proofs.grinding.first_witness.Given as goal

abbrev pub invariant-loop-index : goal.invariant-loop-index
invariant-loop-index g l = (k : ℕ) → k < l.index → ((g.C.Challenger.party l.challenger).rules).passes ((g.C.Challenger.party l.challenger).history) l.bits k ≡ false
