-- What the search for a witness leaves.
use Rattle.std.specs.Prelude.{ℕ, ◌≤◌, [], ◌∷◌, Result, Ok, Err}
use Rattle.sc_definitions.specs.declared.events.Event.TheVariants.{Word, Test}
use Rattle.sc_definitions.specs.Events.{IsFirstWitness, NonePasses}
use Rattle.sc_challenger.specs.declared.grinding.GrindError.{GrindError}
use Rattle.sc_challenger.specs.declared.grinding.GrindError.TheVariants.{NoWitness, NoMemory}
use Rattle.sc_challenger.specs.Parties.{Party, Appends, Keeps}

-- by its result, over a base field of so many elements: the first witness that passes, with its test; or none passes; or there is no room for them
abbrev pub LeavesGround : {F : Type 0} → (F → ℕ) → ℕ → ℕ → Party → Party → Result F GrindError → Type 0
LeavesGround base size bits before after (Ok w) =
    IsFirstWitness before.rules before.history bits (base w) × Appends (Word (base w) ∷ Test bits ∷ []) 2 before after
LeavesGround base size bits before after (Err NoWitness) = NonePasses before.rules before.history bits size × Keeps before after
LeavesGround base size bits before after (Err NoMemory) =
    (NonePasses before.rules before.history bits size → ⊥) × Keeps before after × (2 ≤ before.spare → ⊥)
