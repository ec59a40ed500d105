use Rattle.std.proofs.Common.{◌≡◌, ◌≤◌, ◌*◌, ◌==◌, map}
use Rattle.sc_definitions.specs.Polynomials.{poly_at}
use Rattle.sc_definitions.specs.Roots.{count_below}
use Rattle.sc_field.proofs.roots.count_roots.Given as goal

abbrev pub invariant-loop-i : goal.invariant-loop-i
invariant-loop-i g l = record {
  counted : l.count ≡ count_below (4 * l.i) (λ x. poly_at g.F.Field.ops (map g.F.Field.number l.coeffs) x == 0);
  few : l.count ≤ 4 * l.i;
}

abbrev pub invariant-loop-i-2 : goal.invariant-loop-i-2
invariant-loop-i-2 g l = record {
  counted : l.count ≡ count_below l.i (λ x. poly_at g.F.Field.ops (map g.F.Field.number l.coeffs) x == 0);
  few : l.count ≤ l.i;
}
