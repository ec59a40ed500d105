use Rattle.std.proofs.Common.{◌≡◌, ◌≤◌, ◌*◌, ◌%◌}
use Rattle.sc_definitions.specs.Tables.{entries}
use Rattle.sc_definitions.specs.Residues.{residues}
use Rattle.sc_field.specs.Products.{products, differences}
use Rattle.sc_small_fields.proofs.f65537.F65537Field.dot_differences.Given as goal

abbrev pub invariant-loop-i : goal.invariant-loop-i
invariant-loop-i l = record {
  total : l.sum % 65537
      ≡ products (residues 65537) l.i (differences (residues 65537) (entries (λ x. x.value) l.x0) (entries (λ x. x.value) l.x1))
      (differences (residues 65537) (entries (λ x. x.value) l.y0) (entries (λ x. x.value) l.y1));
  few : l.sum ≤ l.i * 17180131329;
}
