-- What a refusal leaves of a list that elements are added to.
use Rattle.std.specs.Prelude.{◌≡◌, ℕ, ◌<◌, ◌++◌, List, length, map, take}

-- A list is what it was, and after it stand elements of the first few of these numbers, of fewer than all.
pub record GainsFirst {EF : Type 0} (number : EF → ℕ) (numbers : List ℕ) (old new : List EF) : Type 0 where
  pub added : List EF
  pub few : length added < length numbers
  pub kept : new ≡ old ++ added
  pub are : map number added ≡ take (length added) numbers
