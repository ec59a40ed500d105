use Rattle.std.proofs.Common.{◌≡◌, ◌≤◌, ◌++◌, length, map, drop, vec_capacity}
use Rattle.sc_definitions.specs.Polynomials.{poly_minus}
use Rattle.sc_matmul.proofs.verdict.excess_of.Given as goal

abbrev pub invariant-loop-i : goal.invariant-loop-i
invariant-loop-i g l =
    let image = λ (x : g.row.F.Denot). g.EF.Algebra.embedding (g.F.Field.number x) in
    record {
      made : length l.excess.items ≡ l.i;
      room : length l.claimed ≤ vec_capacity l.excess;
      excess : map g.EF.Field.number l.excess.items ++ poly_minus g.EF.Field.ops (drop l.i (map image l.claimed)) (drop l.i (map image l.product))
          ≡ poly_minus g.EF.Field.ops (map image l.claimed) (map image l.product);
    }
