use Rattle.std.proofs.Common.{◌≡◌, ◌≤◌, ◌*◌, ◌%◌}
use Rattle.sc_definitions.specs.Tables.{entries}
use Rattle.sc_definitions.specs.Residues.{residues}
use Rattle.sc_field.specs.Products.{products}
use Rattle.sc_small_fields.proofs.f65537.F65537Field.dot.Given as goal

abbrev pub invariant-loop-i : goal.invariant-loop-i
invariant-loop-i l = record {
  total : l.sum % 65537 ≡ products (residues 65537) l.i (entries (λ x. x.value) l.xs) (entries (λ x. x.value) l.ys);
  few : l.sum ≤ l.i * 17180131329;
}
