-- Rounds that are handed in: their witnesses, and whether these pass.
use Rattle.std.specs.Prelude.{◌≡◌, ℕ, zero, suc, Bool, true, List, [], ◌∷◌, ◌++◌}
use Rattle.sc_definitions.specs.declared.events.Event.{Event}
use Rattle.sc_definitions.specs.Events.{Rules, Extension}
use Rattle.sc_definitions.specs.Transcript.{Round, round_of, sent, round_events}

-- the witness of a round that is played at h passes, or there is no difficulty
unfoldable pub round_passes : Rules → Extension → ℕ → List Event → Round → Bool
round_passes R E zero h r = true
round_passes R E (suc b) h r = R.passes (h ++ sent E r.values) (suc b) r.witness

-- each witness passes at its place
abbrev pub AllPass : Rules → Extension → ℕ → List Event → List Round → Type 0
AllPass R E bits h [] = Unit {0}
AllPass R E bits h (r ∷ rounds) = (round_passes R E bits h r ≡ true) × AllPass R E bits (h ++ round_events E bits r) rounds

-- the rounds of these messages and witnesses, 0 past the witnesses' end
abbrev pub given_rounds : List (List ℕ) → List ℕ → List Round
given_rounds [] ws = []
given_rounds (m ∷ ms) [] = round_of m 0 ∷ given_rounds ms []
given_rounds (m ∷ ms) (w ∷ ws) = round_of m w ∷ given_rounds ms ws
