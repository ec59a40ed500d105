-- Rounds on two tables in a transcript: what a batch of them leaves, and why it stops.
use Rattle.std.specs.Prelude.{◌≡◌, ◌⊎◌, ℕ, ◌+◌, ◌<◌, ◌≤◌, List, ◌++◌, Result, Ok, Err}
use Rattle.sc_definitions.specs.declared.events.Event.{Event}
use Rattle.sc_definitions.specs.Events.{words}
use Rattle.sc_definitions.specs.Seeds.{quadratic_seed}
use Rattle.sc_definitions.specs.Channels.{Wire}
use Rattle.sc_definitions.specs.ProverStates.{Setting, ProverState, IsRound, IsHonestRound, IsPlayed, IsPlayedInPart, IsRoundWithoutWitness, IsPlayedWithoutWitness}
use Rattle.sc_definitions.specs.ProverViews.{Stored, HoldsLast, HoldsIfAny}
use Rattle.sc_transcript.specs.declared.error.SumcheckError.{SumcheckError}
use Rattle.sc_transcript.specs.declared.error.SumcheckError.TheVariants.{NoWitness, NoMemory}
use Rattle.sc_transcript.specs.Drivers.{Driver, HasRoundLeft, IsDone, TakesRoom}

-- why round i is refused, and what that leaves
abbrev pub IsHalted : Setting → ProverState → ProverState → ℕ → SumcheckError → Type 0
IsHalted s before after i NoMemory = after ≡ before
IsHalted s before after i (NoWitness j) = (j ≡ i) × IsRoundWithoutWitness s before after
IsHalted s before after i e = ⊥

-- why rounds stop, where i were played, and what that leaves
abbrev pub IsStopped : Setting → ProverState → ProverState → ℕ → SumcheckError → Type 0
IsStopped s before after i NoMemory = IsPlayedInPart s before after
IsStopped s before after i (NoWitness j) = (j ≡ i) × IsPlayedWithoutWitness s before after
IsStopped s before after i e = ⊥

-- what the rounds that a driver has left leave, by their result: all are played, with these challenges, or they stop
abbrev pub PlaysAll : {X K : Type 0} → Setting → ProverState → ProverState → List ℕ → Driver K → Result X SumcheckError → Type 0
PlaysAll s before after rs d (Ok x) = IsDone d × IsPlayed s before after rs
PlaysAll s before after rs d (Err e) = HasRoundLeft d × IsStopped s before after d.played e

-- what round i leaves, by its result
abbrev pub Moves : {X : Type 0} → (X → ℕ) → Setting → ProverState → ProverState → ℕ → Result X SumcheckError → Type 0
Moves number s before after i (Ok r) = IsRound s before after (number r)
Moves number s before after i (Err e) = IsHalted s before after i e

-- the same, with how the tables before it tell it
abbrev pub MovesHonestly : {X : Type 0} → (X → ℕ) → Setting → ProverState → ProverState → ℕ → Result X SumcheckError → Type 0
MovesHonestly number s before after i (Ok r) = IsRound s before after (number r) × IsHonestRound s before after (number r)
MovesHonestly number s before after i (Err e) = IsHalted s before after i e

-- one round more was played where there is an answer, and none where there is not
abbrev pub CountsOne : {X E K : Type 0} → Driver K → Driver K → Result X E → Type 0
CountsOne before after (Ok x) = after.played ≡ before.played + 1
CountsOne before after (Err e) = after.played ≡ before.played

-- a round takes no more of the room of its driver, over an extension of a degree, and of its data than its own; a refused one takes none of the data's
abbrev pub TakesItsRoom : {X E K : Type 0} → ℕ → Driver K → Driver K → ℕ → ℕ → Result X E → Type 0
TakesItsRoom degree before after spare spare' (Ok x) = TakesRoom degree before after × (spare ≤ spare' + 1)
TakesItsRoom degree before after spare spare' (Err e) = spare ≤ spare'

-- ---- a batch that is asked of a pair or a prover

-- What stays, where it stands before the seed, where the first round begins, which is after the seed, and how many rounds are asked for.
pub record Batch : Type 0 where
  pub setting : Setting
  pub taken : ProverState
  pub start : ProverState
  pub rounds : ℕ

-- the batch of so many rounds, over an extension of a degree; its seed tells the basis of what stays
abbrev pub batch_at : Setting → ProverState → ℕ → ℕ → Batch
batch_at s t degree rounds = record {
  setting = s;
  taken = t;
  start = record t { history = t.history ++ words (quadratic_seed degree s.basis s.channel.bits rounds) };
  rounds = rounds;
}

-- It was played whole: each round binds a variable, and rs are their challenges.
pub record PlaysWhole (b : Batch) (after : ProverState) (rs : List ℕ) : Type 0 where
  pub whole : after.variables + b.rounds ≡ b.start.variables
  pub played : IsPlayed b.setting b.start after rs

-- Some of its rounds were played, from the first on.
pub record PlaysSome (b : Batch) (after : ProverState) : Type 0 where
  pub within : b.start.variables ≤ after.variables + b.rounds
  pub part : IsPlayedInPart b.setting b.start after

-- Why it stops, and what that leaves: one that got no memory may have been broken off before its seed, and the round without a witness is as far as the
-- variables that are left tell.
abbrev pub BreaksOff : Batch → ProverState → SumcheckError → Type 0
BreaksOff b after NoMemory = (after ≡ b.taken) ⊎ PlaysSome b after
BreaksOff b after (NoWitness i) = (i < b.rounds) × (after.variables + i ≡ b.start.variables) × IsPlayedWithoutWitness b.setting b.start after
BreaksOff b after e = ⊥

-- what it leaves, by its result
abbrev pub LeavesBatch : {X : Type 0} → (X → List ℕ) → Batch → ProverState → Result X SumcheckError → Type 0
LeavesBatch challenges b after (Ok x) = PlaysWhole b after (challenges x)
LeavesBatch challenges b after (Err e) = BreaksOff b after e

-- ---- rounds of which the tables are not kept

-- All rounds of a driver were played, with these challenges.
pub record PlaysFrom {K : Type 0} (s : Setting) (start after : ProverState) (rs : List ℕ) (d : Driver K) : Type 0 where
  pub left : after.variables + d.played ≡ start.variables
  pub done : IsDone d
  pub played : IsPlayed s start after rs

-- They stop where a driver stands, with so much on the wire; what the tables were there is not kept. For want of memory alone all rounds may have been
-- played.
pub record StopsFrom {K : Type 0} (s : Setting) (start : ProverState) (d : Driver K) (wire : Wire) (e : SumcheckError) : Type 0 where
  pub after : ProverState
  pub history : after.history ≡ d.history
  pub wire_is : after.wire ≡ wire
  pub left : after.variables + d.played ≡ start.variables
  pub within : d.played ≤ d.shape.num_rounds
  pub some : (e ≡ NoMemory) ⊎ HasRoundLeft d
  pub stopped : IsStopped s start after d.played e

-- A batch breaks off at a history, with so much on the wire; what the tables were there is not kept.
pub record BreaksOffAt (b : Batch) (h : List Event) (wire : Wire) (e : SumcheckError) : Type 0 where
  pub after : ProverState
  pub history : after.history ≡ h
  pub wire_is : after.wire ≡ wire
  pub breaks : BreaksOff b after e

-- ---- rounds under way

-- Rounds under way: what stays, where they stand, and the challenges that they have drawn.
pub record UnderWay : Type 0 where
  pub setting : Setting
  pub now : ProverState
  pub drawn : List ℕ

-- What is kept after a batch was played whole with the challenges rs: the last one is held, if there is one, and else all stays as it was kept before.
abbrev pub HoldsBatch : Batch → Stored → List ℕ → Stored → Type 0
HoldsBatch b before rs stored = HoldsIfAny b.setting b.start before rs stored

-- What rounds leave together with those before them, from wherever these began.
abbrev pub GoesOn : {X K : Type 0} → UnderWay → UnderWay → Driver K → Result X SumcheckError → Type 0
GoesOn before after d result =
    (start : ProverState) → IsPlayed before.setting start before.now before.drawn → PlaysAll before.setting start after.now after.drawn d result

-- Where a round was played among them, the last challenge of all is held, and else all stays as it was kept before.
abbrev pub HoldsIfMore : UnderWay → Stored → List ℕ → Stored → Type 0
HoldsIfMore before kept all stored = (start : ProverState) → IsPlayed before.setting start before.now before.drawn →
    ((all ≡ before.drawn) × (stored ≡ kept)) ⊎ HoldsLast before.setting start all stored
