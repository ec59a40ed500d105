use Rattle.std.proofs.Common.{◌≡◌}
use Rattle.sc_definitions.specs.Tables.{entries}
use Rattle.sc_field.specs.Products.{products, differences, even_rows, odd_rows}
use Rattle.sc_field.proofs.field.Field.dot_pairs.Given as goal

abbrev pub invariant-loop-b : goal.invariant-loop-b
invariant-loop-b g l =
    let f = g.Self.Field in
    let xs = entries f.number l.xs in
    let ys = entries f.number l.ys in
    record {
      even : f.number l.even ≡ products f.ops l.b (even_rows xs) (even_rows ys);
      difference : f.number l.difference ≡ products f.ops l.b (differences f.ops (even_rows xs) (odd_rows xs)) (differences f.ops (even_rows ys) (odd_rows ys));
    }
