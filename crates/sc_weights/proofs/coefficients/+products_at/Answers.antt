use Rattle.std.proofs.Common.{◌≡◌, ℕ, sym, ◌∙◌, ap, arith}
use Rattle.sc_definitions.specs.Ring.{plus, times}
use Rattle.sc_weights.proofs.CoefficientReads.{products-none, products-more}
use Rattle.sc_weights.proofs.coefficients.+products_at.Goals as goal

pub returns-in_default : goal.returns-in_default
returns-in_default g t c =
    let e = g.EF.Field in
    let of : g.row.F.Denot → ℕ = λ x. g.EF.Algebra.embedding (g.F.Field.number x) in
    ap e.number c.ONE.ensures ∙ g.met.EF.Field.one_is
    ∙ sym (products-none e.ops g.met.EF.Field.is_field.ring of e.number c.args.z.now c.args.x.now c.requires (omega (arith, c.in_default.len_below)))

pub returns : goal.returns
returns g t c =
    let e = g.EF.Field in
    let N = e.number in
    let of : g.row.F.Denot → ℕ = λ x. g.EF.Algebra.embedding (g.F.Field.number x) in
    let one : N c.ONE-2.result ≡ 1 = ap N c.ONE-2.ensures ∙ g.met.EF.Field.one_is in
    let factor : N c.add-factor.result ≡ plus e.ops 1 (times e.ops (N c.index-x-0.result) (of c.first-item.result)) =
    cc (c.add-factor.ensures, c.mul_base.ensures, one) in
    c.mul.ensures ∙ ap (λ k. times e.ops k (N c.products_at.result)) factor
    ∙ products-more e.ops g.met.EF.Field.is_field.ring of N c.args.z.now c.args.x.now c.requires (omega (arith, c.in-len1-up.len_at_least)) c.first-item.result c.index-x-0.result
    c.first-item.is c.index-x-0.is (N c.products_at.result) c.products_at.ensures
