-- What a refusal leaves of a list that items are appended to.
use Rattle.std.specs.Prelude.{◌≡◌, ℕ, ◌<◌, ◌++◌, List, length, take}

-- A list is what it was, with the first few of these items after it, fewer than all.
pub record GainsSome {X : Type 0} (items old new : List X) : Type 0 where
  pub count : ℕ
  pub few : count < length items
  pub kept : new ≡ old ++ take count items
