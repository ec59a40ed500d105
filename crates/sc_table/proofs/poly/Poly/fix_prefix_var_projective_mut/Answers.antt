use Rattle.std.proofs.Common.{◌≡◌, length, ◌/◌, ◌^◌, ◌<◌, sym, ◌∙◌, ap, subst, arith}
use Rattle.sc_definitions.specs.Tables.{projective, prefix, entries, bound_coefficients}
use Rattle.sc_definitions.proofs.HonestRounds.{value_in-bound, value_in-same}
use Rattle.sc_table.specs.Polys.{variables_of, table_of}
use Rattle.sc_table.proofs.PowerLaws.{power-half}
use Rattle.sc_table.proofs.poly.Poly.fix_prefix_var_projective_mut.Goals as goal

pub returns-clause-bound : goal.returns-clause-bound
returns-clause-bound g c = λ b low.
    let a = g.A.Field in
    let r = g.A.Algebra.embedding (g.Ch.Field.number c.args.r) in
    let m = variables_of c.keep_first_half.new.self in
    let half_is : c.num_evals-half.result / 2 ≡ 2 ^ m = power-half _ _ m c.num_evals-half.ensures c.keep_first_half.ensures.fewer in
    let size : length c.bind_coefficients.new.coefficients ≡ 2 ^ variables_of c.args.self.now = c.bind_coefficients.auto.coefficients ∙ c.as_mut_slice.ensures.size in
    c.keep_first_half.ensures.kept b low
    ∙ ap (λ t. t b) (c.as_mut_slice.ensures.written c.bind_coefficients.new.coefficients size)
    ∙ c.bind_coefficients.ensures.written b (omega arith) (omega (arith, half_is, low))
    ∙ ap (λ n. bound_coefficients a.ops n r (entries a.number c.as_mut_slice.result.now) b) half_is
    ∙ ap (λ t. bound_coefficients a.ops (2 ^ m) r t b) c.as_mut_slice.ensures.numbers

pub returns-clause-value : goal.returns-clause-value
returns-clause-value g c = λ zs size.
    let a = g.A.Field in
    let r = g.A.Algebra.embedding (g.Ch.Field.number c.args.r) in
    let f = table_of a.number c.args.self.now in
    let same : 2 ^ variables_of c.keep_first_half.new.self ≡ 2 ^ length zs = ap (λ k. 2 ^ k) (sym size) in
    value_in-same projective a.ops _ _ zs (λ b low. returns-clause-bound g c b (subst (λ k. b < k) (sym same) low) ∙ ap (λ k. bound_coefficients a.ops k r f b) same)
    ∙ sym (value_in-bound a.ops g.met.A.Field.is_field.ring projective prefix tt f r zs)
