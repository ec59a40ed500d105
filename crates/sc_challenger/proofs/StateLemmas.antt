-- The state of a longer history.
use Rattle.std.proofs.Common.{◌≡◌, List, [], ◌∷◌, ◌++◌}
use Rattle.std.proofs.lemmas.Grind.{fold-append}
use Rattle.sha2.specs.Sha256.{sha256}
use Rattle.sc_definitions.specs.declared.events.Event.{Event}
use Rattle.sc_challenger.specs.Hashed.{state_of, next_state}

-- one event more is one step more
pub state_more : (h : List Event) (e : Event) → state_of (h ++ e ∷ []) ≡ next_state (state_of h) e
state_more h e = fold-append next_state (sha256 []) h (e ∷ [])
