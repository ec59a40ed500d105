-- A driver of a masked batch, as contracts see it, and what its steps leave.
use Rattle.std.specs.Prelude.{◌≡◌, ℕ, ◌≤◌, List, ◌++◌, length, nat_lt, if◌then◌else◌, Result, Ok, Err}
use Rattle.std.specs.Borrow.{MutBor}
use Rattle.std.specs.declared.cmp.PartialEq.{Ghosts as PartialEqOf}
use Rattle.sc_definitions.specs.declared.events.Event.{Event}
use Rattle.sc_definitions.specs.Events.{Extension, extension_draw}
use Rattle.sc_field.specs.declared.field.Field.{Ghosts as FieldOf}
use Rattle.sc_challenger.specs.declared.challenger.Challenger.{Ghosts as ChallengerOf}
use Rattle.sc_transcript.specs.Drivers.{Driver, driver_over, unplayed_over, Continues, IsBegun}
use Rattle.sc_zk_transcript.specs.declared.shape.ZkSumcheckShape.{ZkSumcheckShape}
use Rattle.sc_zk_transcript.specs.declared.step.ZkStep.{ZkStep}
use Rattle.sc_zk_transcript.specs.declared.step.ZkStep.TheVariants as steps
use Rattle.sc_zk_transcript.specs.declared.step.ZkHead.{ZkHead}
use Rattle.sc_zk_transcript.specs.declared.step.ZkHead.TheVariants as heads
use Rattle.sc_zk_transcript.specs.declared.transcript.ZkTranscript.{ZkTranscript}
use Rattle.sc_zk_transcript.specs.Shapes.{masked_batch}

-- A driver: what stands before its next step, and its rounds, with the challenger that it borrows.
pub record ZkDriver : Type 0 where
  pub head : ZkHead
  pub rounds : Driver ZkSumcheckShape

module _ {C F EF P : Type 0} {c : ChallengerOf C F} {f : FieldOf F} {q : PartialEqOf F} where
  -- the driver of one side of a batch
  abbrev pub driver_in : ZkTranscript C F EF P c f q → ZkDriver
  driver_in t = record { head = t.head; rounds = driver_over c f t.challenger t.rounds }

  -- the challenger that it borrows
  abbrev pub challenger_in : ZkTranscript C F EF P c f q → MutBor C
  challenger_in t = t.challenger

  -- the rounds of the same driver over a challenger as it was lent, before the first word of a batch
  abbrev pub unbegun : ZkTranscript C F EF P c f q → MutBor C → ZkSumcheckShape → Driver ZkSumcheckShape
  unbegun t lent shape = unplayed_over c f lent (masked_batch shape) shape

-- ---- its next step

-- round i, or the end where all were played
abbrev pub round_step : ℕ → ℕ → ZkStep
round_step rounds i = if nat_lt i rounds then steps.Round i else steps.Done

-- the step after a head, where so many of these rounds were played
abbrev pub step_after : ZkHead → ℕ → ℕ → ZkStep
step_after heads.Seed rounds played = steps.Prelude
step_after heads.Prelude rounds played = steps.Masks
step_after heads.Masks rounds played = round_step rounds played

abbrev pub next_of : ZkDriver → ZkStep
next_of d = step_after d.head d.rounds.shape.num_rounds d.rounds.played

-- a step is a round
abbrev pub IsRound : ZkStep → Type 0
IsRound (steps.Round i) = Unit {0}
IsRound other = ⊥

-- ---- steps before the rounds

-- These events were appended, and it has this head.
pub record Advances (events : List Event) (to : ZkHead) (before after : ZkDriver) : Type 0 where
  pub head : after.head ≡ to
  pub begun : IsBegun events before.rounds after.rounds

-- Nothing has moved, and no less room is left.
pub record IsKept (before after : ZkDriver) : Type 0 where
  pub head : after.head ≡ before.head
  pub continues : Continues before.rounds after.rounds
  pub played : after.rounds.played ≡ before.rounds.played
  pub history : after.rounds.history ≡ before.rounds.history
  pub room : before.rounds.room ≤ after.rounds.room

-- what a step leaves that appends these events, by its answer: it is refused for want of their room alone
abbrev pub LeavesStep : {X E : Type 0} → List Event → ZkHead → ZkDriver → ZkDriver → Result X E → Type 0
LeavesStep events to before after (Ok x) = Advances events to before after
LeavesStep events to before after (Err e) = IsKept before after × (length events ≤ before.rounds.room → ⊥)

-- what is drawn after these events
abbrev pub drawn_after : Extension → ZkDriver → List Event → ℕ
drawn_after E d events = extension_draw d.rounds.rules E (d.rounds.history ++ events)
