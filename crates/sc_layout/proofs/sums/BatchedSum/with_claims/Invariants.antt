use Rattle.std.proofs.Common.{ℕ, List, ◌++◌, map, take}
use Rattle.sc_layout.specs.Sums.{IsBatchOf}
use Rattle.sc_layout.proofs.sums.BatchedSum.with_claims.Given as goal

abbrev pub invariant-loop-claim : goal.invariant-loop-claim
invariant-loop-claim g l =
    let e = g.EF.Field in
    (a : ℕ) (xs : List ℕ) → IsBatchOf e.ops e.number a xs l.fn.self → IsBatchOf e.ops e.number a (xs ++ map (λ c. e.number c.eval) (take l.claim-index l.claims)) l.batch
