-- The three tables of a half of a layer's rounds as they stand in memory, and what a walk over the gates adds to them.
use Rattle.std.specs.Prelude.{◌≡◌, ℕ, ◌+◌, ◌-◌, ◌<◌, Bool, List, length, take, drop, nat_lt, if◌then◌else◌}
use Rattle.sc_definitions.specs.Ring.{Ops, ◌*⟨◌⟩◌}
use Rattle.sc_definitions.specs.Tables.{entries}
use Rattle.sc_circuit_definitions.specs.declared.gate.Gate.{Gate}
use Rattle.sc_circuit_definitions.specs.LayerRounds.{LayerTables}
use Rattle.sc_circuit_definitions.specs.LayerPhases.{Phase, first_phase, second_phase, bound_phase}
use Rattle.sc_circuit.specs.declared.phase.PhaseTables.{PhaseTables}

-- the tables, by the numbers of their entries
abbrev pub phase_in : {X : Type 0} → (X → ℕ) → PhaseTables X → Phase
phase_in number p =
    record { values = entries number p.values.items; factors = entries number p.factors.items; rests = entries number p.rests.items }

-- the first n rows of two phases are the same
pub record SameRows (n : ℕ) (p q : Phase) : Type 0 where
  pub values : (b : ℕ) → b < n → p.values b ≡ q.values b
  pub factors : (b : ℕ) → b < n → p.factors b ≡ q.factors b
  pub rests : (b : ℕ) → b < n → p.rests b ≡ q.rests b

-- ---- what a gate of a weight gives to the factor of a row, and to its rest, where v is the value at the gate's other place

unfoldable pub given_factor : Ops → Bool → ℕ → ℕ → ℕ
given_factor o product weight v = if product then weight *⟨ o ⟩ v else weight

unfoldable pub given_rest : Ops → Bool → ℕ → ℕ → ℕ
given_rest o product weight v = if product then 0 else weight *⟨ o ⟩ v

-- what a gate gives at its second place, by weights of the first places and the value at the first challenges
abbrev pub second_factor_share : Ops → (ℕ → ℕ) → (ℕ → ℕ) → ℕ → ℕ → Gate → ℕ
second_factor_share o w points v g gate = given_factor o gate.product (w g *⟨ o ⟩ points gate.left) v

abbrev pub second_rest_share : Ops → (ℕ → ℕ) → (ℕ → ℕ) → ℕ → ℕ → Gate → ℕ
second_rest_share o w points v g gate = given_rest o gate.product (w g *⟨ o ⟩ points gate.left) v

-- ---- the half that is played after these challenges

-- how many variables of it are left
abbrev pub left_after : ℕ → ℕ → ℕ
left_after k drawn = if nat_lt drawn k then k - drawn else (k + k) - drawn

-- its tables: those of the first places, or, once these are bound, those of the second ones
unfoldable pub phase_after : Ops → LayerTables → List ℕ → Phase
phase_after o t us =
    if nat_lt (length us) t.variables
    then bound_phase o us (t.variables - length us) (first_phase o t)
    else bound_phase o (drop t.variables us) ((t.variables + t.variables) - length us) (second_phase o t (take t.variables us))
