use Rattle.std.proofs.Common.{◌≡◌, map, drop}
use Rattle.sc_soundness.specs.Differences.{first_difference}
use Rattle.sc_openings.proofs.values.first_false.Given as goal

abbrev pub invariant-loop-statement : goal.invariant-loop-statement
invariant-loop-statement g l =
    first_difference 0 (map g.EF.Field.number l.claimed) (map g.EF.Field.number l.truths)
    ≡ first_difference l.statement (drop l.statement (map g.EF.Field.number l.claimed)) (drop l.statement (map g.EF.Field.number l.truths))
