use Rattle.std.proofs.Common.{◌≡◌}
use Rattle.sc_definitions.specs.Tables.{entries}
use Rattle.sc_field.specs.Products.{products}
use Rattle.sc_field.proofs.algebra.Algebra.dot_base.Given as goal

abbrev pub invariant-loop-i : goal.invariant-loop-i
invariant-loop-i g l =
    let f = g.Self.Field in
    f.number l.sum ≡ products f.ops l.i (entries (λ x. g.Self.Algebra.embedding (g.B.Field.number x)) l.xs) (entries f.number l.ys)
