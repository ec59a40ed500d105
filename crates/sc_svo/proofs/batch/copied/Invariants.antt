use Rattle.std.proofs.Common.{◌≡◌, ℕ, take}
use Rattle.sc_svo.specs.Claims.{claims_in, AreOn}
use Rattle.sc_svo.proofs.batch.copied.Given as goal

abbrev pub invariant-loop-claim : goal.invariant-loop-claim
invariant-loop-claim g l = record {
  same : claims_in g.EF.Field.number l.copies.items ≡ claims_in g.EF.Field.number (take l.claim-index l.claims);
  on : (n : ℕ) → AreOn n l.claims → AreOn n l.copies.items;
}
