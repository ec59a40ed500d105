use Rattle.std.proofs.Common.{◌≡◌, ◌≤◌, ◌*◌, ◌%◌}
use Rattle.sc_definitions.specs.Tables.{entries}
use Rattle.sc_definitions.specs.Residues.{residues}
use Rattle.sc_definitions.specs.Quadratic.{pair, quadratic}
use Rattle.sc_field.specs.Products.{products, differences, even_rows, odd_rows}
use Rattle.sc_small_fields.proofs.f257x2.F257x2Field.dot_pairs.Given as goal

abbrev pub invariant-loop-i : goal.invariant-loop-i
invariant-loop-i l =
    let q = quadratic (residues 257) 3 in
    let xs = entries (λ x. pair (residues 257) x.low.value x.high.value) l.xs in
    let ys = entries (λ x. pair (residues 257) x.low.value x.high.value) l.ys in
    record {
      even : pair (residues 257) (l.low % 257) (l.high % 257) ≡ products q l.i (even_rows xs) (even_rows ys);
      difference : pair (residues 257) (l.low_difference % 257) (l.high_difference % 257)
          ≡ products q l.i (differences q (even_rows xs) (odd_rows xs)) (differences q (even_rows ys) (odd_rows ys));
      few_low : l.low ≤ l.i * 1052676;
      few_high : l.high ≤ l.i * 1052676;
      few_low_difference : l.low_difference ≤ l.i * 1052676;
      few_high_difference : l.high_difference ≤ l.i * 1052676;
    }
