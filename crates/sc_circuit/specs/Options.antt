-- The first layer that does not agree.
use Rattle.std.specs.Prelude.{ℕ, ◌==◌, if◌then◌else◌, Option, Some, None}

-- the first of two, if one is
abbrev pub or_first : Option ℕ → Option ℕ → Option ℕ
or_first (Some i) later = Some i
or_first None later = later

-- a layer, where what its rounds leave of its claim is not what they sum
abbrev pub disagreement_at : ℕ → ℕ → ℕ → Option ℕ
disagreement_at layer rest sum = if rest == sum then None else Some layer
