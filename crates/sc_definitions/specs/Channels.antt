-- Rounds of any protocol over a channel: what a round leaves of a history, and what is left where it is refused.
use Rattle.std.specs.Prelude.{◌≡◌, ℕ, zero, suc, ◌<◌, true, false, List, [], ◌∷◌, ◌++◌, map, take, Some}
use Rattle.std.specs.List.{slice_get}
use Rattle.sc_definitions.specs.declared.events.Event.{Event}
use Rattle.sc_definitions.specs.Events.{Rules, Extension, NonePasses}
use Rattle.sc_definitions.specs.Rounds.{claim_along}
use Rattle.sc_definitions.specs.Transcript.{Round, messages_of, sent, before_draw, round_events, rounds_events, challenge, challenges, HasFirstWitness}
use Rattle.sc_definitions.specs.Replays.{round_passes, AllPass}

-- What stays in a transcript: how its challenger answers, the parts of its elements, the size of the field of its words, and the difficulty.
pub record Channel : Type 0 where
  pub rules : Rules
  pub extension : Extension
  pub base_size : ℕ
  pub bits : ℕ

-- the channel of these
abbrev pub channel : Rules → Extension → ℕ → ℕ → Channel
channel R E size bits = record { rules = R; extension = E; base_size = size; bits = bits }

-- ---- one round, from a history to the next

-- A round was played at h: its witness is the first that passes, r is its challenge, and h' the history after it.
pub record IsSent (c : Channel) (h : List Event) (round : Round) (r : ℕ) (h' : List Event) : Type 0 where
  pub witness : HasFirstWitness c.rules c.extension c.bits h round
  pub drawn : r ≡ challenge c.rules c.extension c.bits h round
  pub history : h' ≡ h ++ round_events c.extension c.bits round

-- A round was replayed at h: its witness passes, r is its challenge, and h' the history after it.
pub record IsTaken (c : Channel) (h : List Event) (round : Round) (r : ℕ) (h' : List Event) : Type 0 where
  pub passes : round_passes c.rules c.extension c.bits h round ≡ true
  pub drawn : r ≡ challenge c.rules c.extension c.bits h round
  pub history : h' ≡ h ++ round_events c.extension c.bits round

-- No witness was found for values at h: the difficulty is positive, the history ends with them, and no element passes there.
pub record NoWitnessFound (c : Channel) (h : List Event) (values : List ℕ) (h' : List Event) : Type 0 where
  pub positive : 0 < c.bits
  pub history : h' ≡ h ++ sent c.extension values
  pub none_passes : NonePasses c.rules h' c.bits c.base_size

-- The witness of a round at h fails: the history ends with its test.
pub record WitnessFails (c : Channel) (h : List Event) (round : Round) (h' : List Event) : Type 0 where
  pub fails : round_passes c.rules c.extension c.bits h round ≡ false
  pub history : h' ≡ h ++ before_draw c.extension c.bits round

-- ---- rounds that are built

-- Played from h on, after the challenges rs and with n variables left, each sends what `honest` gives for the challenges
-- before it and the number of variables after it, and its witness is the first.
abbrev pub IsBuilt : (List ℕ → ℕ → List ℕ) → Channel → List Event → List ℕ → ℕ → List Round → Type 0
IsBuilt honest c h rs n [] = Unit {0}
IsBuilt honest c h rs zero (r ∷ rounds) = ⊥
IsBuilt honest c h rs (suc n) (r ∷ rounds) =
    (r.values ≡ honest rs n) × HasFirstWitness c.rules c.extension c.bits h r
    × IsBuilt honest c (h ++ round_events c.extension c.bits r) (rs ++ challenge c.rules c.extension c.bits h r ∷ []) n rounds

-- ---- what rounds have put on the wire

-- the messages of rounds, and at a positive difficulty their witnesses
pub record Wire : Type 0 where
  pub messages : List (List ℕ)
  pub witnesses : List ℕ

-- nothing yet
abbrev pub empty_wire : Wire
empty_wire = record { messages = []; witnesses = [] }

-- the witnesses of rounds at a difficulty
abbrev pub witnesses_of : ℕ → List Round → List ℕ
witnesses_of zero rounds = []
witnesses_of (suc bits) rounds = map (λ r. r.witness) rounds

-- the wire with rounds put after it, at a difficulty
abbrev pub with_rounds : ℕ → Wire → List Round → Wire
with_rounds bits w rounds = record { messages = w.messages ++ messages_of rounds; witnesses = w.witnesses ++ witnesses_of bits rounds }

-- ---- rounds that are replayed

-- Where a replay stands: at a history, under a claim.
pub record VerifierState : Type 0 where
  pub history : List Event
  pub claim : ℕ

-- the verifier state of these
abbrev pub verifier_state : List Event → ℕ → VerifierState
verifier_state h claim = record { history = h; claim = claim }

-- The rounds take it from one verifier state to the next, with the challenges rs: each witness passes at its place, and `next` is the claim after one round.
pub record IsReplayed (next : ℕ → List ℕ → ℕ → ℕ) (c : Channel) (before after : VerifierState) (rounds : List Round) (rs : List ℕ) : Type 0 where
  pub history : after.history ≡ before.history ++ rounds_events c.extension c.bits rounds
  pub drawn : rs ≡ challenges c.rules c.extension c.bits before.history rounds
  pub claim : after.claim ≡ claim_along next before.claim (messages_of rounds) (challenges c.rules c.extension c.bits before.history rounds)
  pub passes : AllPass c.rules c.extension c.bits before.history rounds

-- Some of the rounds do, from the first on.
pub record IsReplayedInPart (next : ℕ → List ℕ → ℕ → ℕ) (c : Channel) (before after : VerifierState) (rounds : List Round) : Type 0 where
  pub count : ℕ
  pub rs : List ℕ
  pub replays : IsReplayed next c before after (take count rounds) rs

-- The rounds before round i do, and lead to the history `last`; then the test of that round's witness, which is the first that fails, ends the history.
pub record FailsAt (next : ℕ → List ℕ → ℕ → ℕ) (c : Channel) (before after : VerifierState) (rounds : List Round) (i : ℕ) : Type 0 where
  pub rs : List ℕ
  pub last : List Event
  pub replays : IsReplayed next c before (verifier_state last after.claim) (take i rounds) rs
  pub round : Round
  pub is : slice_get rounds i ≡ Some round
  pub test : WitnessFails c last round after.history
