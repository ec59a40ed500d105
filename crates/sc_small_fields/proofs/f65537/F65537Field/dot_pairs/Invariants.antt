use Rattle.std.proofs.Common.{◌≡◌, ◌≤◌, ◌*◌, ◌%◌}
use Rattle.sc_definitions.specs.Tables.{entries}
use Rattle.sc_definitions.specs.Residues.{residues}
use Rattle.sc_field.specs.Products.{products, differences, even_rows, odd_rows}
use Rattle.sc_small_fields.proofs.f65537.F65537Field.dot_pairs.Given as goal

abbrev pub invariant-loop-b : goal.invariant-loop-b
invariant-loop-b l =
    let o = residues 65537 in
    let xs = entries (λ x. x.value) l.xs in
    let ys = entries (λ x. x.value) l.ys in
    record {
      even : l.even % 65537 ≡ products o l.b (even_rows xs) (even_rows ys);
      difference : l.difference % 65537 ≡ products o l.b (differences o (even_rows xs) (odd_rows xs)) (differences o (even_rows ys) (odd_rows ys));
      few : l.even ≤ l.b * 17180131329;
      few_differences : l.difference ≤ l.b * 17180131329;
    }
