use Rattle.std.proofs.Common.{◌≡◌, map, drop}
use Rattle.sc_soundness.specs.Differences.{first_difference}
use Rattle.sc_matmul.proofs.product.first_false.Given as goal

abbrev pub invariant-loop-place : goal.invariant-loop-place
invariant-loop-place g l =
    first_difference 0 (map g.F.Field.number l.claimed) (map g.F.Field.number l.product)
    ≡ first_difference l.place (drop l.place (map g.F.Field.number l.claimed)) (drop l.place (map g.F.Field.number l.product))
