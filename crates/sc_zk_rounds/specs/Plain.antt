-- What plays plain rounds.
use Rattle.std.specs.Prelude.{◌≡◌, ◌^◌, length}
use Rattle.sc_definitions.specs.ProverViews.{ProverView}

-- The two tables that are shown have a row for each choice of the variables that are left.
pub record HasTables (s : ProverView) : Type 0 where
  pub evals : length s.evals ≡ 2 ^ s.variables
  pub weights : length s.weights ≡ 2 ^ s.variables
