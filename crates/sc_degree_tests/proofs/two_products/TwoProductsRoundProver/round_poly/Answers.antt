use Rattle.std.proofs.Common.{◌≡◌, [], ◌∷◌, ◌++◌, ap, ◌∙◌}
use Rattle.sc_degree_tests.specs.Sums.{round_of_two}
use Rattle.sc_degree_tests.specs.Views.{tables_in, coefficients_in}
use Rattle.sc_degree_tests.proofs.TwoLaws.{sum_is, two_values, three_same}
use Rattle.sc_degree_tests.proofs.two_products.TwoProductsRoundProver.round_poly.Goals as goal

-- the two products' coefficients in sum are the round's
pub returns : goal.returns
returns g c =
    let f = g.EF.Field in
    let N = f.number in
    let p = c.product.ensures in
    let q = c.product-2.ensures in
    let s = c.plus-sum.ensures in
    let same : coefficients_in N c.plus-sum.result ≡ round_of_two f.ops (tables_in N c.args.self.now) = three_same
    (sum_is f.ops s.constant (rw (c.deref.ensures.value, c.deref-2.ensures.value) at p.constant) (rw (c.deref-3.ensures.value, c.deref-4.ensures.value) at q.constant))
    (sum_is f.ops s.linear (rw (c.deref.ensures.value, c.deref-2.ensures.value) at p.linear) (rw (c.deref-3.ensures.value, c.deref-4.ensures.value) at q.linear))
    (sum_is f.ops s.leading (rw (c.deref.ensures.value, c.deref-2.ensures.value) at p.leading) (rw (c.deref-3.ensures.value, c.deref-4.ensures.value) at q.leading)) in
    two_values f.ops N _ _ _ c.at.result c.at-2.result _ _ same c.at.ensures (ap N c.ZERO.ensures ∙ g.met.EF.Field.zero_is) c.at-2.ensures c.element.ensures
    (c.in_ok-push-2.ensures.items ∙ ap (λ t. t ++ c.at-2.result ∷ []) (c.in_ok-push.ensures.items ∙ ap (λ t. t ++ c.at.result ∷ []) c.new-values.ensures.items))
