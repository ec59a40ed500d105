use Rattle.std.proofs.Common.{◌≡◌, ℕ, ◌^◌, length, map, drop}
use Rattle.sc_openings.specs.Shapes.{first_fault, length_fault}
use Rattle.sc_openings.proofs.shape.check_lengths.Given as goal

abbrev pub invariant-loop-table : goal.invariant-loop-table
invariant-loop-table g l = (n : ℕ) → l.rows ≡ 2 ^ n →
    first_fault (length_fault n) 0 (map (λ t. length t.items) l.tables) ≡ first_fault (length_fault n) l.table (drop l.table (map (λ t. length t.items) l.tables))
