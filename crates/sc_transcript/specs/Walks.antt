-- Rounds that came and are replayed one after the other, whatever they send, and what that leaves.
use Rattle.std.specs.Prelude.{◌≡◌, ◌≢◌, ℕ, ◌+◌, List, length, take, All, Option, Some, Result, Ok, Err}
use Rattle.std.specs.List.{slice_get}
use Rattle.sc_definitions.specs.Transcript.{Round, messages_of}
use Rattle.sc_definitions.specs.Channels.{Channel, VerifierState, IsReplayed, FailsAt}
use Rattle.sc_transcript.specs.declared.error.RoundError.{RoundError}
use Rattle.sc_transcript.specs.declared.error.RoundError.TheVariants.{WrongWidth, InvalidWitness, NoMemory}

-- each of the rounds sends so many values
abbrev pub AreWide : ℕ → List Round → Type 0
AreWide width rounds = All (λ values. length values ≡ width) (messages_of rounds)

-- A replay of rounds: what a round leaves of a claim, the channel, how many values each round is to send, where it starts, and the rounds.
pub record Walk : Type 0 where
  pub next : ℕ → List ℕ → ℕ → ℕ
  pub channel : Channel
  pub width : ℕ
  pub start : VerifierState
  pub rounds : List Round

-- the replay of these
abbrev pub walk : (ℕ → List ℕ → ℕ → ℕ) → Channel → ℕ → VerifierState → List Round → Walk
walk next c width start rounds = record { next = next; channel = c; width = width; start = start; rounds = rounds }

-- the replay of its first rounds alone, so many of them
abbrev pub first_of : ℕ → Walk → Walk
first_of count p = record p { rounds = take count p.rounds }

-- All rounds were taken, with the challenges rs.
pub record IsWalked (p : Walk) (rs : List ℕ) (after : VerifierState) : Type 0 where
  pub wide : AreWide p.width p.rounds
  pub replays : IsReplayed p.next p.channel p.start after p.rounds rs

-- Some were, from the first on.
pub record IsWalkedInPart (p : Walk) (after : VerifierState) : Type 0 where
  pub count : ℕ
  pub rs : List ℕ
  pub walked : IsWalked (first_of count p) rs after

-- Those before round i were, and it sends another number of values, namely `actual`.
pub record IsNarrowAt (p : Walk) (i actual : ℕ) (after : VerifierState) : Type 0 where
  pub rs : List ℕ
  pub walked : IsWalked (first_of i p) rs after
  pub round : Round
  pub is : slice_get p.rounds i ≡ Some round
  pub counts : actual ≡ length round.values
  pub other : actual ≢ p.width

-- Round i and those before it send as many values as they are to; its witness is the first that fails, and the history ends with its test.
pub record FailsInWalk (p : Walk) (i : ℕ) (after : VerifierState) : Type 0 where
  pub wide : AreWide p.width (take (i + 1) p.rounds)
  pub at : FailsAt p.next p.channel p.start after p.rounds i

-- What a replay of them leaves, by its answer: the challenges, or what the error stands for, if that is one of rounds.
abbrev pub LeavesWalk : Walk → Result (List ℕ) (Option RoundError) → VerifierState → Type 0
LeavesWalk p (Ok rs) after = IsWalked p rs after
LeavesWalk p (Err (Some NoMemory)) after = IsWalkedInPart p after
LeavesWalk p (Err (Some (WrongWidth i expected actual))) after = (expected ≡ p.width) × IsNarrowAt p i actual after
LeavesWalk p (Err (Some (InvalidWitness i bits))) after = (bits ≡ p.channel.bits) × FailsInWalk p i after
LeavesWalk p (Err e) after = ⊥
