-- A round of any protocol, as a driver sends it and as it takes one that came.
use Rattle.std.specs.Prelude.{◌≡◌, ℕ, zero, suc, ◌+◌, ◌*◌, ◌<◌, ◌==◌, if◌then◌else◌, true, false, List, ◌++◌, Option, Some, None, IsSome, Result, Ok, Err}
use Rattle.std.specs.Option.{option_map_or}
use Rattle.sc_definitions.specs.declared.events.Event.{Event}
use Rattle.sc_definitions.specs.Events.{Rules, IsFirstWitness, NonePasses}
use Rattle.sc_definitions.specs.Transcript.{Round, round_of, sent, witness_events}
use Rattle.sc_definitions.specs.Channels.{Channel, IsSent, IsTaken, NoWitnessFound, WitnessFails}
use Rattle.sc_transcript.specs.declared.error.RoundError.{RoundError}
use Rattle.sc_transcript.specs.declared.error.RoundError.TheVariants.{MissingWitness, InvalidWitness}
use Rattle.sc_transcript.specs.declared.rounds.WitnessError.{WitnessError}
use Rattle.sc_transcript.specs.declared.rounds.WitnessError.TheVariants.{Missing, Invalid}

-- how many events a round appends that sends so many values, over an extension of a degree
abbrev pub events_of : ℕ → ℕ → ℕ → ℕ
events_of degree values zero = (values + 1) * degree
events_of degree values (suc bits) = (values + 1) * degree + 2

-- how many witnesses rounds have: one each at a positive difficulty, and none without one
abbrev pub witness_count : ℕ → ℕ → ℕ
witness_count bits rounds = if bits == 0 then 0 else rounds

-- a witness comes exactly at a positive difficulty
pub record IsDue {W : Type 0} (bits : ℕ) (witness : Option W) : Type 0 where
  pub some : 0 < bits → IsSome witness
  pub none : bits ≡ 0 → witness ≡ None

-- what the search for a witness at h leaves, over rules and a base field of so many elements: the first one that passes, appended with its test; or there
-- is none at a positive difficulty
abbrev pub LeavesFound : {W E : Type 0} → (W → ℕ) → Rules → ℕ → ℕ → List Event → Result (Option W) E → List Event → Type 0
LeavesFound base R size bits h (Ok w) h' =
    (h' ≡ h ++ witness_events bits (option_map_or base w 0)) × (0 < bits → IsFirstWitness R h bits (option_map_or base w 0)) × IsDue bits w
LeavesFound base R size bits h (Err e) h' = (h' ≡ h) × (0 < bits) × NonePasses R h bits size

-- what the test at h of a witness that came, or of none, leaves
abbrev pub LeavesTested : {W X : Type 0} → (W → ℕ) → Rules → ℕ → Option W → List Event → Result X WitnessError → List Event → Type 0
LeavesTested base R bits came h (Ok x) h' =
    (h' ≡ h ++ witness_events bits (option_map_or base came 0)) × (0 < bits → IsSome came × (R.passes h bits (option_map_or base came 0) ≡ true))
LeavesTested base R bits came h (Err Missing) h' = (h' ≡ h) × (0 < bits) × (came ≡ None)
LeavesTested base R bits came h (Err Invalid) h' =
    (h' ≡ h ++ witness_events bits (option_map_or base came 0)) × (0 < bits) × IsSome came × (R.passes h bits (option_map_or base came 0) ≡ false)

-- what a round of these values that is sent at h leaves: the challenge and the witness, or none
abbrev pub LeavesSent : {X W : Type 0} → (W → ℕ) → (X → ℕ) → Channel → List Event → List ℕ → Option (X × Option W) → List Event → Type 0
LeavesSent base number c h values (Some x) h' = IsSent c h (round_of values (option_map_or base x.1 0)) (number x.0) h' × IsDue c.bits x.1
LeavesSent base number c h values None h' = NoWitnessFound c h values h'

-- what a round that came, with a witness or without one, leaves where it is taken at h, by its result
abbrev pub LeavesTaken : {X W : Type 0} → (X → ℕ) → Channel → List Event → Round → Option W → Result X WitnessError → List Event → Type 0
LeavesTaken number c h round came (Ok x) h' = (0 < c.bits → IsSome came) × IsTaken c h round (number x) h'
LeavesTaken number c h round came (Err Missing) h' = (0 < c.bits) × (came ≡ None) × (h' ≡ h ++ sent c.extension round.values)
LeavesTaken number c h round came (Err Invalid) h' = IsSome came × WitnessFails c h round h'

-- the difficulty that an error tells, if it tells one
abbrev pub HasDifficulty : ℕ → RoundError → Type 0
HasDifficulty bits (MissingWitness i bits') = bits' ≡ bits
HasDifficulty bits (InvalidWitness i bits') = bits' ≡ bits
HasDifficulty bits e = Unit {0}
