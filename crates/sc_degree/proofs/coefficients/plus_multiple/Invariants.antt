use Rattle.std.proofs.Common.{◌≡◌, ◌++◌, ◌≤◌, length, map, drop, vec_len, vec_capacity}
use Rattle.sc_degree.specs.Coefficients.{plus_multiple}
use Rattle.sc_degree.proofs.coefficients.plus_multiple.Given as goal

abbrev pub invariant-loop-i : goal.invariant-loop-i
invariant-loop-i g l =
    let e = g.EF.Field in
    let cs = map e.number l.coeffs in
    let ds = map e.number l.others in
    record {
      made : map e.number l.sum.items ++ plus_multiple e.ops (e.number l.share) (drop l.i cs) (drop l.i ds) ≡ plus_multiple e.ops (e.number l.share) cs ds;
      len : vec_len l.sum ≡ l.i;
      room : length l.coeffs ≤ vec_capacity l.sum;
    }
