-- Tables of a half of a layer's rounds by their rows.
use Rattle.std.specs.Prelude.{ℕ, List}
use Rattle.sc_definitions.specs.Ring.{Ops}
use Rattle.sc_definitions.specs.Tables.{entries, bound}
use Rattle.sc_circuit_definitions.specs.LayerPhases.{Phase}

-- the tables that these lists hold
abbrev pub phase_of : {X : Type 0} → (X → ℕ) → List X → List X → List X → Phase
phase_of number values factors rests =
    record { values = entries number values; factors = entries number factors; rests = entries number rests }

-- the tables with their first variable, of two halves of the given length, at x
abbrev pub phase_bound : Ops → ℕ → ℕ → Phase → Phase
phase_bound o half x p =
    record { values = bound o half x p.values; factors = bound o half x p.factors; rests = bound o half x p.rests }
