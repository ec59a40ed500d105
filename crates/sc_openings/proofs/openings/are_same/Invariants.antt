use Rattle.std.proofs.Common.{◌≡◌, map, drop}
use Rattle.std.specs.Prelude.{nat_eq}
use Rattle.std.specs.Cmp.Lexicographic.{pointwise}
use Rattle.sc_openings.proofs.openings.are_same.Given as goal

abbrev pub invariant-loop-i : goal.invariant-loop-i
invariant-loop-i g l =
    let N = g.EF.Field.number in
    pointwise nat_eq (map N l.values) (map N l.others) ≡ pointwise nat_eq (drop l.i (map N l.values)) (drop l.i (map N l.others))
