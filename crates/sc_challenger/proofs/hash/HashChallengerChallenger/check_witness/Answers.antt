use Rattle.std.proofs.Common.{append_assoc, arith}
use Rattle.sc_challenger.proofs.StateLemmas.{state_more}
use Rattle.sc_challenger.proofs.hash.HashChallengerChallenger.check_witness.Goals as goal

-- the state is that after both events
pub invariant_of-self-2 : goal.invariant_of-self-2
invariant_of-self-2 g c = grind (arith, state_more)
