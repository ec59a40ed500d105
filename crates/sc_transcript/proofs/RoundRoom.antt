-- The room that a round takes.
use Rattle.std.proofs.Common.{◌≡◌, ℕ, zero, suc, ◌+◌, ◌<◌, ◌≤◌, length, arith}
use Rattle.sc_definitions.specs.Transcript.{witness_events}

-- no witness takes no room, and one takes that of two events
pub spare_none : (bits spare : ℕ) → bits ≡ 0 → spare ≤ spare + length (witness_events bits 0)
spare_none zero spare none = omega arith
spare_none (suc b) spare none = absurd (omega arith)

pub spare_some : (bits spare spare₁ : ℕ) → 0 < bits → spare ≤ spare₁ + 2 → spare ≤ spare₁ + length (witness_events bits 0)
spare_some zero spare spare₁ positive left = absurd (omega arith)
spare_some (suc b) spare spare₁ positive left = omega arith
