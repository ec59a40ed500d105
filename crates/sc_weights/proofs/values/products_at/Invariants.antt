use Rattle.std.proofs.Common.{map}
use Rattle.sc_weights.proofs.ProductSteps.{IsPassed}
use Rattle.sc_weights.proofs.values.products_at.Given as goal

abbrev pub invariant-loop-z_i : goal.invariant-loop-z_i
invariant-loop-z_i g l =
    let f = g.EF.Field in
    IsPassed f.ops (map (λ x. g.EF.Algebra.embedding (g.F.Field.number x)) l.z) (map f.number l.x) (map (λ x. g.EF.Algebra.embedding (g.F.Field.number x)) l.z_i-iterator.a.rest.now)
    (map f.number l.z_i-iterator.b.rest.now) (f.number l.product)
