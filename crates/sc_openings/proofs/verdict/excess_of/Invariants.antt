use Rattle.std.proofs.Common.{◌≡◌, ◌≤◌, ◌++◌, length, map, drop, vec_capacity}
use Rattle.sc_definitions.specs.Polynomials.{poly_minus}
use Rattle.sc_openings.proofs.verdict.excess_of.Given as goal

abbrev pub invariant-loop-i : goal.invariant-loop-i
invariant-loop-i g l =
    let e = g.EF.Field in
    let N = e.number in
    record {
      made : length l.excess.items ≡ l.i;
      room : length l.claimed ≤ vec_capacity l.excess;
      excess : map N l.excess.items ++ poly_minus e.ops (drop l.i (map N l.claimed)) (drop l.i (map N l.truths)) ≡ poly_minus e.ops (map N l.claimed) (map N l.truths);
    }
