use Rattle.std.proofs.Common.{◌≡◌}
use Rattle.sc_definitions.specs.Tables.{entries}
use Rattle.sc_field.specs.Products.{products, differences}
use Rattle.sc_field.proofs.algebra.Algebra.dot_base_differences.Given as goal

abbrev pub invariant-loop-i : goal.invariant-loop-i
invariant-loop-i g l =
    let f = g.Self.Field in
    f.number l.sum ≡ products f.ops l.i (differences f.ops (entries (λ x. g.Self.Algebra.embedding (g.B.Field.number x)) l.x0) (entries (λ x. g.Self.Algebra.embedding (g.B.Field.number x)) l.x1))
    (differences f.ops (entries f.number l.y0) (entries f.number l.y1))
