use Rattle.std.proofs.Common.{◌≡◌, ◌-◌, length, map, drop}
use Rattle.sc_definitions.specs.Polynomials.{poly_at}
use Rattle.sc_field.proofs.roots.poly_at.Given as goal

abbrev pub invariant-loop-i : goal.invariant-loop-i
invariant-loop-i g l = g.F.Field.number l.value ≡ poly_at g.F.Field.ops (drop (length l.coeffs - l.i) (map g.F.Field.number l.coeffs)) (g.F.Field.number l.x)
