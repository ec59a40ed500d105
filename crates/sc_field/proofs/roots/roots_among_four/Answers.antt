use Rattle.std.proofs.Common.{ℕ, ◌==◌, map, if◌then◌else◌, ap, ◌∙◌}
use Rattle.sc_definitions.specs.Polynomials.{poly_at}
use Rattle.sc_field.proofs.RootLaws.{counted-four}
use Rattle.sc_field.proofs.roots.roots_among_four.Goals as goal

pub returns-clause-more : goal.returns-clause-more
returns-clause-more g c =
    let f = g.F.Field in
    let cs = map f.number c.args.coeffs.now in
    let one : ℕ → ℕ = λ v. if v == 0 then 1 else 0 in
    let values = c.values_at_four-values.ensures in
    counted-four f.ops cs c.args.from c.one_for_zero.result c.one_for_zero-2.result c.one_for_zero-3.result c.one_for_zero-4.result
    (c.one_for_zero.ensures.one ∙ ap one (values.first ∙ ap (poly_at f.ops cs) c.element-a.ensures))
    (c.one_for_zero-2.ensures.one ∙ ap one (values.second ∙ ap (poly_at f.ops cs) c.element-b.ensures))
    (c.one_for_zero-3.ensures.one ∙ ap one (values.third ∙ ap (poly_at f.ops cs) c.element-c.ensures))
    (c.one_for_zero-4.ensures.one ∙ ap one (values.fourth ∙ ap (poly_at f.ops cs) c.element-d.ensures))
