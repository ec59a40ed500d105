use Rattle.std.proofs.Common.{[], ◌∷◌, ◌++◌, map, take, append-nil, take_all, sym, ap, ◌∙◌, subst, arith}
use Rattle.sc_layout.specs.Sums.{IsBatchOf}
use Rattle.sc_layout.proofs.SumLaws.{values-more}
use Rattle.sc_layout.proofs.sums.BatchedSum.with_claims.Goals as goal

pub loop-claim-init : goal.loop-claim-init
loop-claim-init g c a xs before =
    let e = g.EF.Field in
    subst (λ ys. IsBatchOf e.ops e.number a ys c.args.self) (sym (append-nil xs)) before

pub loop-claim-preserved : goal.loop-claim-preserved
loop-claim-preserved g c a xs before =
    let e = g.EF.Field in
    let i = c.loop-claim.claim-index in
    let so_far = xs ++ map (λ v. e.number v.eval) (take i c.args.claims.now) in
    subst (λ ys. IsBatchOf e.ops e.number a ys c.with-batch.result)
    (ap (λ v. so_far ++ v ∷ []) (ap e.number c.eval.ensures)
    ∙ sym (values-more (λ v. e.number v.eval) c.args.claims.now xs i c.claim-item.result c.loop-claim-test.true c.claim-item.is))
    (c.with-batch.ensures a so_far (c.loop-claim.invariant a xs before))

pub returns : goal.returns
returns g c a xs before =
    let e = g.EF.Field in
    subst (λ vs. IsBatchOf e.ops e.number a (xs ++ map (λ v. e.number v.eval) vs) c.loop-claim.batch)
    (take_all c.loop-claim.claim-index c.args.claims.now (omega (arith, c.loop-claim-test.false))) (c.loop-claim.invariant a xs before)
