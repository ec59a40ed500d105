-- The fields that a job is over.
use Rattle.std.specs.Prelude.{ℕ}
use Rattle.sc_definitions.specs.Events.{Extension}

-- the elements of a base field and of its extension have these numbers, and those of the base field these images; nothing more is said
abbrev pub IsOver : {F EF : Type 0} → (F → ℕ) → (EF → ℕ) → (ℕ → ℕ) → Extension → Type 0
IsOver base number embedding extension = Unit {0}
