use Rattle.std.proofs.Common.{◌++◌, flat_map, map, take, take_all, append_assoc, sym, ◌∙◌, subst, arith}
use Rattle.sc_layout.specs.Sums.{IsBatchOf}
use Rattle.sc_layout.proofs.BookLaws.{opened_values, flat-more, batched-book}
use Rattle.sc_layout.proofs.book.Book.sum.Goals as goal

pub loop-claim-preserved : goal.loop-claim-preserved
loop-claim-preserved g c =
    let e = g.EF.Field in
    let of = λ (m : g.row.M.Denot). opened_values (g.M.OpenedClaim.opened m) in
    let ms = c.deref-claim-items.result.now in
    let i = c.loop-claim.claim-index in
    let m = c.claim-item.result in
    subst (λ xs. IsBatchOf e.ops e.number (e.number c.args.alpha) xs c.add_to-batch.result)
    (append_assoc (flat_map of (take i ms)) (g.M.OpenedClaim.opened m).current (g.M.OpenedClaim.opened m).next ∙ sym (flat-more of ms i m c.loop-claim-test.true c.claim-item.is))
    (c.add_to-batch.ensures (e.number c.args.alpha) (flat_map of (take i ms)) c.loop-claim.invariant)

pub returns : goal.returns
returns g c =
    let e = g.EF.Field in
    let of = λ (m : g.row.M.Denot). opened_values (g.M.OpenedClaim.opened m) in
    let ms = c.args.self.now.concrete.items in
    let given = c.deref-claim-items.result.now in
    let all = take_all c.loop-claim.claim-index given (omega (arith, c.loop-claim-test.false)) ∙ c.deref-claim-items.ensures.value in
    let a = e.number c.args.alpha in
    c.sum.ensures a (flat_map of ms ++ map (λ v. e.number v.eval) c.args.self.now.virtual_claims.items)
    (subst (λ vs. IsBatchOf e.ops e.number a (flat_map of ms ++ map (λ v. e.number v.eval) vs) c.with_claims.result) c.deref.ensures.value
    (c.with_claims.ensures a (flat_map of ms) (subst (λ l. IsBatchOf e.ops e.number a (flat_map of l) c.loop-claim.batch) all c.loop-claim.invariant)))
    ∙ batched-book e.ops e.number a g.M.OpenedClaim.opened c.args.self.now
