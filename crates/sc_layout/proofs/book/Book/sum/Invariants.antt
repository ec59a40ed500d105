use Rattle.std.proofs.Common.{flat_map, take}
use Rattle.sc_layout.specs.Sums.{IsBatchOf}
use Rattle.sc_layout.proofs.BookLaws.{opened_values}
use Rattle.sc_layout.proofs.book.Book.sum.Given as goal

abbrev pub invariant-loop-claim : goal.invariant-loop-claim
invariant-loop-claim g l =
    let e = g.EF.Field in
    IsBatchOf e.ops e.number (e.number l.fn.alpha) (flat_map (λ m. opened_values (g.M.OpenedClaim.opened m)) (take l.claim-index l.claim-items)) l.batch
