use Rattle.std.proofs.Common.{◌≡◌, ◌++◌, ◌≤◌, length, map, drop, vec_len, vec_capacity}
use Rattle.sc_definitions.specs.Polynomials.{poly_minus}
use Rattle.sc_circuit.proofs.turn.difference.Given as goal

abbrev pub invariant-loop-i : goal.invariant-loop-i
invariant-loop-i g l =
    let e = g.EF.Field in
    let cs = map e.number l.coeffs in
    let ds = map e.number l.others in
    record {
      made : map e.number l.less.items ++ poly_minus e.ops (drop l.i cs) (drop l.i ds) ≡ poly_minus e.ops cs ds;
      len : vec_len l.less ≡ l.i;
      room : length l.coeffs ≤ vec_capacity l.less;
    }
