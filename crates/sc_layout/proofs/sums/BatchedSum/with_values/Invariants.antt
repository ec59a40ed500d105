use Rattle.std.proofs.Common.{ℕ, List, ◌++◌, map, take}
use Rattle.sc_layout.specs.Sums.{IsBatchOf}
use Rattle.sc_layout.proofs.sums.BatchedSum.with_values.Given as goal

abbrev pub invariant-loop-value : goal.invariant-loop-value
invariant-loop-value g l =
    let e = g.EF.Field in
    (a : ℕ) (xs : List ℕ) → IsBatchOf e.ops e.number a xs l.fn.self → IsBatchOf e.ops e.number a (xs ++ map e.number (take l.value-index l.values)) l.batch
