use Rattle.std.proofs.Common.{[], ◌∷◌, ◌++◌, map, ap, ◌∙◌}
use Rattle.sc_definitions.specs.Polynomials.{poly_minus}
use Rattle.sc_merged.proofs.turn.difference.Goals as goal

pub returns : goal.returns
unfolding poly_minus
returns g c =
    let N = g.EF.Field.number in
    let one = c.push_reserved.ensures.items ∙ ap (λ l. l ++ c.sub.result ∷ []) c.in_ok-polynomial.ensures.items in
    let two = c.push_reserved-2.ensures.items ∙ ap (λ l. l ++ c.sub-2.result ∷ []) one in
    let three = c.push_reserved-3.ensures.items ∙ ap (λ l. l ++ c.sub-3.result ∷ []) two in
    ap (map N) (c.new.ensures ∙ three)
    ∙ (λ i. c.sub.ensures i ∷ c.sub-2.ensures i ∷ c.sub-3.ensures i ∷ [])
