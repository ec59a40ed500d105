use Rattle.std.proofs.Common.{◌≡◌, ℕ, ◌^◌, length, map, take}
use Rattle.sc_definitions.specs.Tables.{entries}
use Rattle.sc_svo.specs.Claims.{claims_in, true_values_of}
use Rattle.sc_svo.proofs.batch.claim_values.Given as goal

abbrev pub invariant-loop-claim : goal.invariant-loop-claim
invariant-loop-claim g l = (n : ℕ) → length l.table ≡ 2 ^ n →
    map g.EF.Field.number l.values.items
    ≡ true_values_of g.EF.Field.ops n (entries (λ x. g.EF.Algebra.embedding (g.F.Field.number x)) l.table) (claims_in g.EF.Field.number (take l.claim-index l.claims))
