-- The history of a challenger, what a challenger answers, and the parts of an extension's elements.
use Rattle.std.specs.Prelude.{◌≡◌, ℕ, zero, suc, ◌<◌, Bool, true, false, List, [], ◌∷◌, ◌++◌, map, replicate, slice_index}
use Rattle.sc_definitions.specs.declared.events.Event.{Event}
use Rattle.sc_definitions.specs.declared.events.Event.TheVariants.{Word, Draw}

-- What a challenger answers: the draw at a history, whether a witness passes a test of a difficulty at
-- a history, and the greatest difficulty.
pub record Rules : Type 0 where
  pub draw : List Event → ℕ
  pub passes : List Event → ℕ → ℕ → Bool
  pub max_bits : ℕ

-- an extension of a base field: how many parts an element has, its parts, and the element of given parts
pub record Extension : Type 0 where
  pub degree : ℕ
  pub parts : ℕ → List ℕ
  pub join : List ℕ → ℕ

-- a field as its own extension: an element is its one part
abbrev pub own_extension : Extension
own_extension = record { degree = 1; parts = λ x. x ∷ []; join = λ xs. slice_index xs 0 }

-- base numbers as words
abbrev pub words : List ℕ → List Event
words xs = map Word xs

-- n base draws, one after the other, from h on
unfoldable pub draws : Rules → List Event → ℕ → List ℕ
draws R h zero = []
draws R h (suc n) = draws R h n ++ R.draw (h ++ replicate n Draw) ∷ []

-- the extension draw at h
unfoldable pub extension_draw : Rules → Extension → List Event → ℕ
extension_draw R E h = E.join (draws R h E.degree)

-- the least number that passes
pub record IsFirstWitness (R : Rules) (h : List Event) (bits w : ℕ) : Type 0 where
  pub passes : R.passes h bits w ≡ true
  pub least : (k : ℕ) → k < w → R.passes h bits k ≡ false

-- no number below the size passes
abbrev pub NonePasses : Rules → List Event → ℕ → ℕ → Type 0
NonePasses R h bits size = (k : ℕ) → k < size → R.passes h bits k ≡ false
