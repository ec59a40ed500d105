-- The replay of a proof, and what it leaves by its result, whatever its rounds send.
use Rattle.std.specs.Prelude.{◌≡◌, ◌≢◌, ◌⊎◌, ℕ, List, Option, Some, Result, Ok, Err, length}
use Rattle.sc_definitions.specs.declared.events.Event.{Event}
use Rattle.sc_challenger.specs.Parties.{Party}
use Rattle.sc_definitions.specs.Replays.{given_rounds}
use Rattle.sc_definitions.specs.Channels.{Channel, Wire, VerifierState, verifier_state}
use Rattle.sc_transcript.specs.declared.error.RoundError.{RoundError}
use Rattle.sc_transcript.specs.declared.error.RoundError.TheVariants.{RoundCount, WitnessCount, NoMemory}
use Rattle.sc_transcript.specs.declared.rounds.BatchShape.{BatchShape}
use Rattle.sc_transcript.specs.Rounds.{witness_count}
use Rattle.sc_transcript.specs.Walks.{Walk, walk, LeavesWalk}

-- A replay that is asked for: of a batch of these numbers, of the rounds that came on a wire.
pub record Replay : Type 0 where
  pub shape : BatchShape
  pub walk : Walk
  pub came : Wire

-- the replay of what came on a wire, over a channel, from where its first round stands
abbrev pub replay_of : (ℕ → List ℕ → ℕ → ℕ) → Channel → BatchShape → VerifierState → Wire → Replay
replay_of next c shape start came = record {
  shape = shape;
  walk = walk next c shape.width start (given_rounds came.messages came.witnesses);
  came = came;
}

-- as many rounds as a batch has, and as many witnesses as its difficulty asks for
pub record AreCounted (shape : BatchShape) (rounds witnesses : ℕ) : Type 0 where
  pub as_rounds : rounds ≡ shape.num_rounds
  pub as_witnesses : witnesses ≡ witness_count shape.pow_bits shape.num_rounds

-- why they are not, in the order of the tests
abbrev pub AreMiscounted : BatchShape → ℕ → ℕ → RoundError → Type 0
AreMiscounted shape rounds witnesses (RoundCount expected actual) =
    (expected ≡ shape.num_rounds) × (actual ≡ rounds) × (actual ≢ expected)
AreMiscounted shape rounds witnesses (WitnessCount expected actual) =
    (expected ≡ witness_count shape.pow_bits shape.num_rounds) × (actual ≡ witnesses) × (actual ≢ expected) × (rounds ≡ shape.num_rounds)
AreMiscounted shape rounds witnesses e = ⊥

-- the counts of what came are right
abbrev pub IsCounted : Replay → Type 0
IsCounted p = AreCounted p.shape (length p.came.messages) (length p.came.witnesses)

-- What a replay leaves, by its answer: a count that is wrong leaves all as it was, and so may the want of memory; else it is a replay of all rounds.
abbrev pub LeavesReplay : Type 0 → Replay → Result (List ℕ) (Option RoundError) → VerifierState → Type 0
LeavesReplay untouched p (Ok rs) after = IsCounted p × LeavesWalk p.walk (Ok rs) after
LeavesReplay untouched p (Err (Some (RoundCount n m))) after =
    AreMiscounted p.shape (length p.came.messages) (length p.came.witnesses) (RoundCount n m) × untouched
LeavesReplay untouched p (Err (Some (WitnessCount n m))) after =
    AreMiscounted p.shape (length p.came.messages) (length p.came.witnesses) (WitnessCount n m) × untouched
LeavesReplay untouched p (Err (Some NoMemory)) after = IsCounted p × (untouched ⊎ LeavesWalk p.walk (Err (Some NoMemory)) after)
LeavesReplay untouched p (Err e) after = IsCounted p × LeavesWalk p.walk (Err e) after

-- ---- for a caller, whose claim is an element

-- Where a caller stands: at a history, under a claim.
pub record CallerState (X : Type 0) : Type 0 where
  pub history : List Event
  pub claim : X

-- where one stands whose challenger this is, under a claim
abbrev pub caller_state : {X : Type 0} → Party → X → CallerState X
caller_state party claim = record { history = party.history; claim = claim }

-- the verifier state there
abbrev pub verifier_state_at : {X : Type 0} → (X → ℕ) → CallerState X → VerifierState
verifier_state_at number at = verifier_state at.history (number at.claim)

-- nothing has moved
abbrev pub IsUnmoved : {X : Type 0} → CallerState X → CallerState X → Type 0
IsUnmoved before after = (after.history ≡ before.history) × (after.claim ≡ before.claim)

-- what the replay leaves that is asked for where the caller stands
abbrev pub LeavesFrom : {X : Type 0} → (X → ℕ) → (VerifierState → Replay) → CallerState X → CallerState X → Result (List ℕ) (Option RoundError) → Type 0
LeavesFrom number asked before after answer = LeavesReplay (IsUnmoved before after) (asked (verifier_state_at number before)) answer (verifier_state_at number after)
