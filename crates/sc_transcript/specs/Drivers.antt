-- A driver of rounds, as contracts see it: whose challenger it borrows, the batch that it is in, and where it stands. The words hold of every protocol.
use Rattle.std.specs.Prelude.{◌≡◌, ◌≢◌, ℕ, ◌+◌, ◌^◌, ◌<◌, ◌≤◌, List, [], ◌∷◌, ◌++◌, length, Option, Some, None, IsSome, Result, Ok, Err}
use Rattle.std.specs.Option.{option_map_or}
use Rattle.std.specs.Borrow.{MutBor}
use Rattle.sc_definitions.specs.declared.events.Event.{Event}
use Rattle.sc_definitions.specs.Events.{Rules, Extension}
use Rattle.sc_definitions.specs.Transcript.{Round, round_of, sent}
use Rattle.sc_definitions.specs.Channels.{Channel, IsSent, IsTaken, NoWitnessFound, WitnessFails, Wire, with_rounds}
use Rattle.sc_field.specs.declared.field.Field.{Ghosts as FieldOf}
use Rattle.sc_challenger.specs.Parties.{Party}
use Rattle.sc_challenger.specs.declared.challenger.Challenger.{Ghosts as ChallengerOf}
use Rattle.sc_transcript.specs.declared.rounds.BatchShape.{BatchShape}
use Rattle.sc_transcript.specs.declared.error.RoundError.{RoundError}
use Rattle.sc_transcript.specs.declared.error.RoundError.TheVariants.{WrongWidth, NoWitness, MissingWitness, InvalidWitness, NoMemory}
use Rattle.sc_transcript.specs.declared.rounds.Rounds.{Rounds}
use Rattle.sc_transcript.specs.Rounds.{events_of, IsDue}

-- A driver: who lent its challenger, what that answers by, the size of the field of its words, the batch's numbers, what its protocol keeps with them, how
-- many rounds were played, the history, and how many further events need no memory.
pub record Driver (K : Type 0) : Type 0 where
  pub lender : ℕ
  pub rules : Rules
  pub base_size : ℕ
  pub shape : BatchShape
  pub kind : K
  pub played : ℕ
  pub history : List Event
  pub room : ℕ

-- the driver of rounds over a challenger that was lent, which answers by these rules, has this history and this room
abbrev pub driver_at : {C K : Type 0} → (C → Party) → ℕ → MutBor C → Rounds K → Driver K
driver_at party base_size lent rounds = record {
  lender = lent.ghost_name;
  rules = (party lent.now).rules;
  base_size = base_size;
  shape = rounds.shape;
  kind = rounds.kind;
  played = rounds.played;
  history = (party lent.now).history;
  room = (party lent.now).spare;
}

-- the same by what is known of the challenger and of the field
abbrev pub driver_over : {C F K : Type 0} → ChallengerOf C F → FieldOf F → MutBor C → Rounds K → Driver K
driver_over c f lent rounds = driver_at c.party f.ops.size lent rounds

-- the same before the first round of a batch of these numbers and this kind
abbrev pub unplayed_over : {C F K : Type 0} → ChallengerOf C F → FieldOf F → MutBor C → BatchShape → K → Driver K
unplayed_over c f lent shape kind = record {
  lender = lent.ghost_name;
  rules = (c.party lent.now).rules;
  base_size = f.ops.size;
  shape = shape;
  kind = kind;
  played = 0;
  history = (c.party lent.now).history;
  room = (c.party lent.now).spare;
}

-- none of these rounds was played
pub record IsUnplayed {K : Type 0} (of : BatchShape) (sort : K) (rounds : Rounds K) : Type 0 where
  pub shape : rounds.shape ≡ of
  pub kind : rounds.kind ≡ sort
  pub played : rounds.played ≡ 0

-- ---- what stays

-- its channel, where elements have these parts
abbrev pub channel_of : {K : Type 0} → Extension → Driver K → Channel
channel_of E d = record { rules = d.rules; extension = E; base_size = d.base_size; bits = d.shape.pow_bits }

-- the same batch over the same challenger
pub record Continues {K : Type 0} (before after : Driver K) : Type 0 where
  pub lender : after.lender ≡ before.lender
  pub rules : after.rules ≡ before.rules
  pub shape : after.shape ≡ before.shape
  pub kind : after.kind ≡ before.kind

-- a reference holds what was lent, as it was
pub record IsLent {C : Type 0} (lent held : MutBor C) : Type 0 where
  pub lender : held.ghost_name ≡ lent.ghost_name
  pub same : held.now ≡ lent.now

-- ---- the beginning and the end of a batch

-- no round of this batch was played
pub record IsFresh {K : Type 0} (of : BatchShape) (sort : K) (d : Driver K) : Type 0 where
  pub shape : d.shape ≡ of
  pub kind : d.kind ≡ sort
  pub played : d.played ≡ 0

-- What stands before the rounds of a batch was absorbed, and took no more of the room than it needs.
pub record IsBegun {K : Type 0} (prelude : List Event) (before after : Driver K) : Type 0 where
  pub continues : Continues before after
  pub played : after.played ≡ before.played
  pub history : after.history ≡ before.history ++ prelude
  pub room : before.room ≤ after.room + length prelude

-- a round is still to be played
abbrev pub HasRoundLeft : {K : Type 0} → Driver K → Type 0
HasRoundLeft d = d.played < d.shape.num_rounds

-- so many are
abbrev pub HasRoundsLeft : {K : Type 0} → ℕ → Driver K → Type 0
HasRoundsLeft rounds d = d.played + rounds ≤ d.shape.num_rounds

-- all were played
abbrev pub IsDone : {K : Type 0} → Driver K → Type 0
IsDone d = d.played ≡ d.shape.num_rounds

-- ---- room

-- there is room for the events of a round, over an extension of a degree
abbrev pub HasRoom : {K : Type 0} → ℕ → Driver K → Type 0
HasRoom degree d = events_of degree d.shape.width d.shape.pow_bits ≤ d.room

-- there is none, or the values of a round are too many to be counted
abbrev pub LacksRoom : {K : Type 0} → ℕ → Driver K → Type 0
LacksRoom degree d = d.shape.width < 2 ^ 32 → HasRoom degree d → ⊥

-- a round took no more
abbrev pub TakesRoom : {K : Type 0} → ℕ → Driver K → Driver K → Type 0
TakesRoom degree before after = before.room ≤ after.room + events_of degree before.shape.width before.shape.pow_bits

-- ---- a round that is played

-- one more round is played, with the challenge r
pub record PlaysRound {K : Type 0} (E : Extension) (before after : Driver K) (round : Round) (r : ℕ) : Type 0 where
  pub continues : Continues before after
  pub played : after.played ≡ before.played + 1
  pub sent : IsSent (channel_of E before) before.history round r after.history
  pub room : TakesRoom E.degree before after

-- Why round i of these values is refused at h, and the history that this leaves. The error is what a protocol's own stands for, or none where that is no
-- error of a round.
abbrev pub IsRefused : Channel → ℕ → List Event → List ℕ → List Event → Option RoundError → Type 0
IsRefused c i h values h' (Some NoMemory) = h' ≡ h
IsRefused c i h values h' (Some (NoWitness j)) = (j ≡ i) × NoWitnessFound c h values h'
IsRefused c i h values h' e = ⊥

-- a round of these values is refused, and is still to be played
pub record RefusesRound {K : Type 0} (E : Extension) (before after : Driver K) (values : List ℕ) (e : Option RoundError) : Type 0 where
  pub continues : Continues before after
  pub played : after.played ≡ before.played
  pub why : IsRefused (channel_of E before) before.played before.history values after.history e

-- what a call answers, by what its values and its errors stand for
abbrev pub answer_as : {X Y E E' : Type 0} → (X → Y) → (E → E') → Result X E → Result Y E'
answer_as value cause (Ok x) = Ok (value x)
answer_as value cause (Err e) = Err (cause e)

-- What the play of a round of these values leaves, by its answer: the challenge and the witness, or why it is refused, for want of memory without room alone.
abbrev pub PlaysOrRefuses : {K W : Type 0} → (W → ℕ) → Extension → Driver K → Driver K → List ℕ → Result (ℕ × Option W) (Option RoundError) → Type 0
PlaysOrRefuses base E before after values (Ok x) =
    PlaysRound E before after (round_of values (option_map_or base x.1 0)) x.0 × IsDue before.shape.pow_bits x.1
PlaysOrRefuses base E before after values (Err e) = RefusesRound E before after values e × (e ≡ Some NoMemory → LacksRoom E.degree before)

-- ---- a round that came

-- one more round, of as many values as a round sends, is taken, with the challenge r
pub record TakesRound {K : Type 0} (E : Extension) (before after : Driver K) (round : Round) (r : ℕ) : Type 0 where
  pub continues : Continues before after
  pub played : after.played ≡ before.played + 1
  pub width : length round.values ≡ before.shape.width
  pub taken : IsTaken (channel_of E before) before.history round r after.history
  pub room : TakesRoom E.degree before after

-- why a driver rejects its next round, for which a witness came or none, and the history that this leaves
abbrev pub IsRejected : {K W : Type 0} → Extension → Driver K → Round → Option W → List Event → Option RoundError → Type 0
IsRejected E d round came h' (Some NoMemory) = (length round.values ≡ d.shape.width) × (h' ≡ d.history)
IsRejected E d round came h' (Some (WrongWidth i expected actual)) =
    (i ≡ d.played) × (expected ≡ d.shape.width) × (actual ≡ length round.values) × (length round.values ≢ d.shape.width) × (h' ≡ d.history)
IsRejected E d round came h' (Some (MissingWitness i bits)) =
    (i ≡ d.played) × (bits ≡ d.shape.pow_bits) × (length round.values ≡ d.shape.width) × (0 < d.shape.pow_bits) × (came ≡ None)
    × (h' ≡ d.history ++ sent E round.values)
IsRejected E d round came h' (Some (InvalidWitness i bits)) =
    (i ≡ d.played) × (bits ≡ d.shape.pow_bits) × (length round.values ≡ d.shape.width) × IsSome came × WitnessFails (channel_of E d) d.history round h'
IsRejected E d round came h' e = ⊥

-- a round is rejected, and is still to be taken
pub record RejectsRound {K W : Type 0} (E : Extension) (before after : Driver K) (round : Round) (came : Option W) (e : Option RoundError) : Type 0 where
  pub continues : Continues before after
  pub played : after.played ≡ before.played
  pub why : IsRejected E before round came after.history e

-- What the taking of a round of these values leaves, for which a witness came or none, by its answer: the challenge, or why it is rejected, for want of memory
-- without room alone.
abbrev pub TakesOrRejects : {K W : Type 0} → (W → ℕ) → Extension → Driver K → Driver K → List ℕ → Option W → Result ℕ (Option RoundError) → Type 0
TakesOrRejects base E before after values came (Ok r) =
    TakesRound E before after (round_of values (option_map_or base came 0)) r × (0 < before.shape.pow_bits → IsSome came)
TakesOrRejects base E before after values came (Err e) =
    RejectsRound E before after (round_of values (option_map_or base came 0)) came e × (e ≡ Some NoMemory → LacksRoom E.degree before)

-- ---- a round that is put on the wire

-- one more round, of these values, is played and put on the wire
pub record PutsRound {K : Type 0} (E : Extension) (before after : Driver K) (values : List ℕ) (r : ℕ) (sent sent' : Wire) : Type 0 where
  pub witness : ℕ
  pub plays : PlaysRound E before after (round_of values witness) r
  pub wire : sent' ≡ with_rounds before.shape.pow_bits sent (round_of values witness ∷ [])
