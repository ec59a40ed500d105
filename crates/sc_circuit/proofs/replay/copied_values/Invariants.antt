use Rattle.std.proofs.Common.{◌≡◌, map, take}
use Rattle.sc_circuit.proofs.replay.copied_values.Given as goal

-- the values so far
abbrev pub invariant-loop-values : goal.invariant-loop-values
invariant-loop-values g l =
    let N = g.EF.Field.number in
    map (λ v. map N v.items) l.found.items ≡ map (λ v. map N v.items) (take l.values-index l.rounds)
