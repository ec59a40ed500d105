-- A challenger as contracts see it, and what its calls leave.
use Rattle.std.specs.Prelude.{◌≡◌, ℕ, ◌+◌, ◌≤◌, List, ◌++◌, Result, Ok, Err}
use Rattle.sc_definitions.specs.declared.events.Event.{Event}
use Rattle.sc_definitions.specs.Events.{Rules, Extension}
use Rattle.sc_definitions.specs.Channels.{Channel, channel}

-- How it answers, which never changes, what was observed, drawn and tested, the oldest first, and how many further events need no memory.
pub record Party : Type 0 where
  pub rules : Rules
  pub history : List Event
  pub spare : ℕ

-- the channel of its rules, of elements with these parts over a field of so many words, at a difficulty
abbrev pub channel_by : Party → Extension → ℕ → ℕ → Channel
channel_by p E size bits = channel p.rules E size bits

-- another one of the same rules, with the same history
pub record IsCopyOf (of copy : Party) : Type 0 where
  pub rules : copy.rules ≡ of.rules
  pub history : copy.history ≡ of.history

-- It has these events more, and no more of its room is taken than so much.
pub record Appends (events : List Event) (room : ℕ) (before after : Party) : Type 0 where
  pub rules : after.rules ≡ before.rules
  pub history : after.history ≡ before.history ++ events
  pub spare : before.spare ≤ after.spare + room

-- It has no event more, and no less room.
pub record Keeps (before after : Party) : Type 0 where
  pub rules : after.rules ≡ before.rules
  pub history : after.history ≡ before.history
  pub spare : before.spare ≤ after.spare

-- what a call leaves that appends these events, for which so much room is enough, by its result: it may be refused without that room alone, and then leaves
-- all as it was
abbrev pub LeavesAppended : {X E : Type 0} → List Event → ℕ → Party → Party → Result X E → Type 0
LeavesAppended events room before after (Ok x) = Appends events room before after
LeavesAppended events room before after (Err e) = Keeps before after × (room ≤ before.spare → ⊥)

-- the same of a call that takes memory of its own too
abbrev pub MayAppend : {X E : Type 0} → List Event → ℕ → Party → Party → Result X E → Type 0
MayAppend events room before after (Ok x) = Appends events room before after
MayAppend events room before after (Err e) = Keeps before after
