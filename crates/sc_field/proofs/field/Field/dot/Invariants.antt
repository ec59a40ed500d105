use Rattle.std.proofs.Common.{◌≡◌}
use Rattle.sc_definitions.specs.Tables.{entries}
use Rattle.sc_field.specs.Products.{products}
use Rattle.sc_field.proofs.field.Field.dot.Given as goal

abbrev pub invariant-loop-i : goal.invariant-loop-i
invariant-loop-i g l =
    let f = g.Self.Field in
    f.number l.sum ≡ products f.ops l.i (entries f.number l.xs) (entries f.number l.ys)
