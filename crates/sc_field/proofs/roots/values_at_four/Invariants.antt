use Rattle.std.proofs.Common.{◌≡◌, ◌-◌, length, map, drop}
use Rattle.sc_definitions.specs.Polynomials.{poly_at}
use Rattle.sc_field.proofs.roots.values_at_four.Given as goal

abbrev pub invariant-loop-i : goal.invariant-loop-i
invariant-loop-i g l = record {
  first : g.F.Field.number l.a ≡ poly_at g.F.Field.ops (drop (length l.coeffs - l.i) (map g.F.Field.number l.coeffs)) (g.F.Field.number l.xs.0);
  second : g.F.Field.number l.b ≡ poly_at g.F.Field.ops (drop (length l.coeffs - l.i) (map g.F.Field.number l.coeffs)) (g.F.Field.number l.xs.1.0);
  third : g.F.Field.number l.c ≡ poly_at g.F.Field.ops (drop (length l.coeffs - l.i) (map g.F.Field.number l.coeffs)) (g.F.Field.number l.xs.1.1.0);
  fourth : g.F.Field.number l.d ≡ poly_at g.F.Field.ops (drop (length l.coeffs - l.i) (map g.F.Field.number l.coeffs)) (g.F.Field.number l.xs.1.1.1.0);
}
