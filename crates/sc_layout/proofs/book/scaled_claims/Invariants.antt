use Rattle.std.proofs.Common.{◌++◌, flat_map, take}
use Rattle.sc_layout.specs.Openings.{opened_statements}
use Rattle.sc_layout.specs.Claimed.{prover_opened}
use Rattle.sc_layout.specs.Books.{virtual_statements}
use Rattle.sc_layout.specs.Scaled.{AreScaled}
use Rattle.sc_layout.proofs.book.scaled_claims.Given as goal

abbrev pub invariant-loop-claim : goal.invariant-loop-claim
invariant-loop-claim g l =
    let e = g.EF.Field in
    AreScaled e.ops e.number (e.number l.fn.alpha) (flat_map (λ m. opened_statements (prover_opened m)) (take l.claim-index l.claim-items)) l.scaled

abbrev pub invariant-loop-virtual_claim : goal.invariant-loop-virtual_claim
invariant-loop-virtual_claim g l =
    let e = g.EF.Field in
    AreScaled e.ops e.number (e.number l.fn.alpha)
    (flat_map (λ m. opened_statements (prover_opened m)) l.fn.book.concrete.items ++ virtual_statements e.number (take l.virtual_claim-index l.virtual_claim-items)) l.scaled
