use Rattle.std.proofs.Common.{rules}
use Rattle.sc_challenger.proofs.hash.HashChallengerChallenger.would_pass.Goals as goal

-- the test looks at the state after the word
pub returns : goal.returns
returns g c = search rules
