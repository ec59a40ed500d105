use Rattle.std.proofs.Common.{◌≡◌, ◌++◌, map, take, drop, [], ◌∷◌}
use Rattle.sumcheck_tables.specs.Views.{numbers_in}
use Rattle.sumcheck_c.proofs.tables.put_rounds.Given as goal

abbrev pub invariant-loop-i : goal.invariant-loop-i
invariant-loop-i l =
    map numbers_in l.out ≡ take l.i (map (λ m. m.c_a.value ∷ m.c_inf.value ∷ []) l.messages) ++ drop l.i (map numbers_in l.initial.out)
