-- The wire of a masked round, as it is assembled.
use Rattle.std.specs.Prelude.{◌≡◌, ℕ, List, length}
use Rattle.sc_definitions.specs.Ring.{Ops, ◌+⟨◌⟩◌, ◌*⟨◌⟩◌}
use Rattle.sc_zk_definitions.specs.Masks.{Piece, two_power, total_of, masked_round, wire_of}

-- It is the wire of the round's mask wherever the factor and the constant are those of the masks before it and after it.
abbrev pub Assembles : Ops → ℕ → ℕ → List ℕ → ℕ → Piece → List ℕ → Type 0
Assembles o factor constant mask eps p wire =
    (done : ℕ) (ends : List ℕ) → factor ≡ two_power o (length ends) → constant ≡ factor *⟨ o ⟩ done +⟨ o ⟩ total_of o ends →
    wire ≡ wire_of (masked_round o eps done mask ends p)
