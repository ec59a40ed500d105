use Rattle.std.proofs.Common.{◌++◌, map, ap, ◌∙◌, subst}
use Rattle.sc_layout.specs.Sums.{IsBatchOf}
use Rattle.sc_layout.proofs.multi_claim.ProverMultiClaimOpenedClaim.add_to.Goals as goal

pub returns : goal.returns
returns g c a xs before =
    let e = g.EF.Field in
    let current = map (λ v. e.number v.eval) c.args.self.now.current in
    subst (λ ys. IsBatchOf e.ops e.number a ys c.with_claims-2.result)
    (ap (λ l. (xs ++ map (λ v. e.number v.eval) l) ++ map (λ v. e.number v.eval) c.as_slice-2.result.now) c.as_slice.ensures
    ∙ ap (λ l. (xs ++ current) ++ map (λ v. e.number v.eval) l) c.as_slice-2.ensures)
    (c.with_claims-2.ensures a (xs ++ map (λ v. e.number v.eval) c.as_slice.result.now) (c.with_claims.ensures a xs before))
