-- What rounds leave of both tables, by those that they began with.
use Rattle.std.specs.Prelude.{◌≡◌, ℕ, ◌^◌, ◌<◌, List}
use Rattle.sc_definitions.specs.Ring.{IsRing, element}
use Rattle.sc_definitions.specs.Tables.{rows_of}
use Rattle.sc_definitions.specs.Rounds.{partial_value}
use Rattle.sc_definitions.specs.ProverStates.{Setting, ProverState, IsPlayed}

-- Each entry that is left is the entry of the table before with the challenges rs placed.
pub record ArePlaced (s : Setting) (before after : ProverState) (rs : List ℕ) : Type 0 where
  pub evals : (b : ℕ) → b < 2 ^ after.variables →
      element s.ops (rows_of after.evals b) ≡ partial_value s.basis s.order s.ops (rows_of before.evals) rs after.variables b
  pub weights : (b : ℕ) → b < 2 ^ after.variables →
      element s.ops (rows_of after.weights b) ≡ partial_value s.basis s.order s.ops (rows_of before.weights) rs after.variables b

-- Rounds with these challenges leave such tables.
abbrev pub PlayedArePlaced : Type 0
PlayedArePlaced = (s : Setting) (before after : ProverState) (rs : List ℕ) → IsRing s.ops → IsPlayed s before after rs → ArePlaced s before after rs
