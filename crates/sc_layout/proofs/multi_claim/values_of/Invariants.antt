use Rattle.std.proofs.Common.{◌≡◌, map, take}
use Rattle.sc_layout.proofs.multi_claim.values_of.Given as goal

abbrev pub invariant-loop-claim : goal.invariant-loop-claim
invariant-loop-claim g l = map g.EF.Field.number l.values.items ≡ map (λ c. g.EF.Field.number c.eval) (take l.claim-index l.claims)
