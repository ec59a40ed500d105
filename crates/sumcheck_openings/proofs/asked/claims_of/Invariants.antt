use Rattle.std.proofs.Common.{◌≡◌, map, take}
use Rattle.sc_openings.specs.OpeningsJobs.{claim_in}
use Rattle.sumcheck_openings.specs.OpeningsReplies.{claim_given}
use Rattle.sumcheck_openings.proofs.asked.claims_of.Given as goal

abbrev pub invariant-loop-claim : goal.invariant-loop-claim
invariant-loop-claim g l = map (claim_in g.EF.Field.number) l.found.items ≡ map claim_given (take l.claim-index l.claims)
