-- The round that turned a false claim on tables with weights into the true one.
use Rattle.std.specs.Prelude.{ℕ, List, [], ◌∷◌, map}
use Rattle.sc_definitions.specs.Lucky.{Turn}
use Rattle.sc_merged.specs.declared.turn.FoundTurn.{FoundTurn}

-- a turn that was found, by the numbers of its coefficients
abbrev pub turn_in : {EF : Type 0} → (EF → ℕ) → FoundTurn EF → Turn
turn_in number t = record { round = t.round; polynomial = map number t.polynomial }

-- the numbers of three coefficients
abbrev pub three_of : {EF : Type 0} → (EF → ℕ) → EF × EF × EF → List ℕ
three_of number cs = number cs.0 ∷ number cs.1 ∷ number cs.2 ∷ []
