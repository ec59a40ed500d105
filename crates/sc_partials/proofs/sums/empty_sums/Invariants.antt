use Rattle.std.proofs.Common.{◌≡◌, ℕ, ◌^◌}
use Rattle.sc_definitions.specs.Tables.{Order}
use Rattle.sc_definitions.specs.Grids.{grids_of}
use Rattle.sc_partials.specs.Sums.{sums_shown}
use Rattle.sc_partials.proofs.sums.empty_sums.Given as goal

abbrev pub invariant-loop-i : goal.invariant-loop-i
invariant-loop-i g l =
    (l.places ≡ 3 ^ l.i)
    × ((order : Order) (n : ℕ) (f : ℕ → ℕ) → sums_shown g.EF.Field.number l.sums.items ≡ grids_of order g.EF.Field.ops n f (λ b. 0) l.i)
