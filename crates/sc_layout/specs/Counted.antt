-- The test of how many values came.
use Rattle.std.specs.Prelude.{◌≡◌, ◌≢◌, ℕ, Result, Ok, Err}
use Rattle.sc_transcript.specs.declared.error.SumcheckError.{SumcheckError}
use Rattle.sc_transcript.specs.declared.error.SumcheckError.TheVariants.{OpeningShapeMismatch}
use Rattle.sc_layout.specs.Requests.{Counts}

-- A claim is refused as it has another number of values of a kind than was asked for.
pub record IsMisshapen (table : ℕ) (asked came : Counts) (e : SumcheckError) : Type 0 where
  pub differ : came ≢ asked
  pub error : e ≡ OpeningShapeMismatch table asked.current asked.next came.current came.next

-- what the test of the counts answers
abbrev pub TestsCounts : {X : Type 0} → ℕ → Counts → Counts → Result X SumcheckError → Type 0
TestsCounts table asked came (Ok x) = came ≡ asked
TestsCounts table asked came (Err e) = IsMisshapen table asked came e
