-- The fields that a job is over.
use Rattle.std.specs.Prelude.{ℕ}
use Rattle.sc_definitions.specs.Events.{Extension}

-- the elements of a base field and of its extension have these numbers, those of the base field these images, and those of the extension these parts; nothing
-- more is said
abbrev pub AreFieldsOf : {F EF : Type 0} → (F → ℕ) → (EF → ℕ) → (ℕ → ℕ) → Extension → Type 0
AreFieldsOf base number embedding extension = Unit {0}
