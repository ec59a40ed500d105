use Rattle.std.proofs.Common.{◌≡◌, ℕ, ◌^◌, length, map, ◌∙◌, ap, arith}
use Rattle.sc_definitions.specs.Ring.{plus, times}
use Rattle.sc_definitions.specs.Tables.{monomial}
use Rattle.sc_table.proofs.EntryLaws.{entry-replicate}
use Rattle.sc_weights.proofs.ProductSteps.{monomial-alone}
use Rattle.sc_weights.proofs.select.product_weights.Goals as goal

pub returns : goal.returns
returns g c = λ b low.
    let f = g.EF.Field in
    let met = g.met.EF.Field in
    let of : g.row.F.Denot → ℕ = λ x. g.EF.Algebra.embedding (g.F.Field.number x) in
    let zs = map of c.args.z.now in
    let size : 2 ^ length c.args.z.now ≡ 256 = ap (λ k. 2 ^ k) c.requires.coordinates in
    c.add_products_by_halves.ensures b (omega (arith, low, size))
    ∙ ap (λ k. plus f.ops k (times f.ops (f.number c.ONE.result) (monomial f.ops zs b))) (entry-replicate f.number c.ZERO-weights.result 256 b (ap f.number c.ZERO-weights.ensures ∙ met.zero_is))
    ∙ ap (λ k. plus f.ops 0 (times f.ops k (monomial f.ops zs b))) (ap f.number c.ONE.ensures ∙ met.one_is)
    ∙ monomial-alone f.ops met.is_field.ring zs b
