-- What rounds leave of both tables, by those that they began with.
use Rattle.std.proofs.Common.{◌≡◌, ℕ, ◌^◌, ◌<◌, List, sym, ◌∙◌, ap}
use Rattle.sc_definitions.specs.Ring.{IsRing, element}
use Rattle.sc_definitions.specs.Tables.{rows_of, folded_by}
use Rattle.sc_definitions.specs.Rounds.{partial_value}
use Rattle.sc_definitions.specs.ProverStates.{Setting, entries_of}
use Rattle.sc_definitions.proofs.PlacedLaws.{partial_value-folded_by}
use Rattle.sc_definitions.proofs.ProverStateLaws.{rows-entries_of}
use Rattle.sc_rounds.specs.Placed.{PlayedArePlaced}

module _ (s : Setting) (ring : IsRing s.ops) (rs : List ℕ) (m : ℕ) (old left : List ℕ) (is : left ≡ entries_of m (folded_by s.basis s.order s.ops rs m (rows_of old))) where
  placed-entry : (b : ℕ) → b < 2 ^ m → element s.ops (rows_of left b) ≡ partial_value s.basis s.order s.ops (rows_of old) rs m b
  placed-entry b low =
      ap (λ xs. element s.ops (rows_of xs b)) is
      ∙ ap (element s.ops) (rows-entries_of m (folded_by s.basis s.order s.ops rs m (rows_of old)) b low)
      ∙ sym (partial_value-folded_by s.ops ring s.basis s.order (rows_of old) rs m b low)

pub played_are_placed : PlayedArePlaced
played_are_placed s before after rs ring played = record {
  evals = placed-entry s ring rs after.variables before.evals after.evals played.evals;
  weights = placed-entry s ring rs after.variables before.weights after.weights played.weights;
}
