use Rattle.std.proofs.Common.{◌≡◌, ◌++◌, ◌+◌, ◌≤◌, length, map, drop, vec_len, vec_capacity}
use Rattle.sc_degree.specs.Coefficients.{times_line}
use Rattle.sc_degree.proofs.coefficients.times_line.Given as goal

abbrev pub invariant-loop-i : goal.invariant-loop-i
invariant-loop-i g l =
    let e = g.EF.Field in
    let cs = map e.number l.coeffs in
    record {
      made : map e.number l.product.items ++ times_line e.ops (e.number l.at) (e.number l.before) (drop l.i cs) ≡ times_line e.ops (e.number l.at) 0 cs;
      len : vec_len l.product ≡ l.i;
      room : length l.coeffs + 1 ≤ vec_capacity l.product;
    }
