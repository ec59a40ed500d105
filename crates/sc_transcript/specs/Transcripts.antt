-- The sides of a batch, as drivers of rounds.
use Rattle.std.specs.Borrow.{MutBor}
use Rattle.std.specs.declared.cmp.PartialEq.{Ghosts as PartialEqOf}
use Rattle.sc_field.specs.declared.field.Field.{Ghosts as FieldOf}
use Rattle.sc_challenger.specs.declared.challenger.Challenger.{Ghosts as ChallengerOf}
use Rattle.sc_transcript.specs.declared.driver.RoundShape.{Ghosts as RoundShapeOf}
use Rattle.sc_transcript.specs.declared.driver.Transcript.{Transcript}
use Rattle.sc_transcript.specs.Drivers.{Driver, driver_over, unplayed_over}

module _ {C F EF S P : Type 0} {c : ChallengerOf C F} {f : FieldOf F} {q : PartialEqOf F} {s : RoundShapeOf S} where
  -- its driver
  abbrev pub driver_in : Transcript C F EF S P c f q s → Driver S
  driver_in t = driver_over c f t.challenger t.rounds

  -- the challenger that it borrows
  abbrev pub challenger_in : Transcript C F EF S P c f q s → MutBor C
  challenger_in t = t.challenger

  -- the same driver over a challenger as it was lent, before the first word of a batch
  abbrev pub unbegun : Transcript C F EF S P c f q s → MutBor C → S → Driver S
  unbegun t lent shape = unplayed_over c f lent (s.numbers shape) shape
