use Rattle.std.proofs.Common.{◌≡◌, ◌≤◌, ◌*◌, ◌%◌}
use Rattle.sc_definitions.specs.Tables.{entries}
use Rattle.sc_definitions.specs.Residues.{residues}
use Rattle.sc_definitions.specs.Quadratic.{pair, quadratic}
use Rattle.sc_field.specs.Products.{products}
use Rattle.sc_small_fields.proofs.f257x2.F257x2Field.dot.Given as goal

abbrev pub invariant-loop-i : goal.invariant-loop-i
invariant-loop-i l = record {
  total : pair (residues 257) (l.low % 257) (l.high % 257)
      ≡ products (quadratic (residues 257) 3) l.i (entries (λ x. pair (residues 257) x.low.value x.high.value) l.xs) (entries (λ x. pair (residues 257) x.low.value x.high.value) l.ys);
  few_low : l.low ≤ l.i * 1052676;
  few_high : l.high ≤ l.i * 1052676;
}
