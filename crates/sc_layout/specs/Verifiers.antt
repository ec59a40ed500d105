-- What clauses see of a verifier, and how it takes a claim.
use Rattle.std.specs.Prelude.{◌≡◌, ℕ, Result, Ok, Err}
use Rattle.std.specs.declared.cmp.PartialEq.{Ghosts as PartialEqOf}
use Rattle.sc_definitions.specs.Events.{Extension}
use Rattle.sc_challenger.specs.Parties.{Party}
use Rattle.sc_field.specs.declared.field.Field.{Ghosts as FieldOf}
use Rattle.sc_transcript.specs.declared.error.SumcheckError.{SumcheckError}
use Rattle.sc_transcript.specs.declared.error.SumcheckError.TheVariants.{NoMemory}
use Rattle.sc_layout.specs.declared.shape.LayoutStrategy.{LayoutStrategy}
use Rattle.sc_layout.specs.declared.verifier.Verifier.{Verifier}
use Rattle.sc_layout.specs.Claimed.{verifier_opened}
use Rattle.sc_layout.specs.Requests.{Counts, Values, counts_of}
use Rattle.sc_layout.specs.Counted.{IsMisshapen}
use Rattle.sc_layout.specs.Openings.{Recorded, Taking, taking, OpeningState, opening_state, opened, point_at, AddsConcrete, AddsNothing}
use Rattle.sc_layout.specs.Books.{recorded_by}

-- What a verifier tells: its strategy, how many variables its table has, and what is recorded.
pub record Told : Type 0 where
  pub strategy : LayoutStrategy
  pub variables : ℕ
  pub recorded : Recorded

module _ {F EF : Type 0} {e : FieldOf EF} {q : PartialEqOf EF} where
  -- what it tells, by numbers
  abbrev pub told_in : Verifier F EF e q → Told
  told_in v = record { strategy = v.strategy; variables = v.variables; recorded = recorded_by (verifier_opened e.number) e.number v.claims }

-- strategy and shape are what they were
abbrev pub KeepsShape : Told → Told → Type 0
KeepsShape before after = after ≡ record before { recorded = after.recorded }

-- how it takes claims, under a challenger
abbrev pub taking_by : Party → Extension → Told → Taking
taking_by p E v = taking p.rules E v.variables

-- where they stand
abbrev pub opening_state_at : Party → Told → OpeningState
opening_state_at p v = opening_state p.history v.recorded

-- What a claim of these values leaves, by the answer: it is added; or it has other numbers of values than were asked for, and nothing is changed; or
-- memory ran out.
abbrev pub LeavesClaim : {X : Type 0} → Taking → Counts → Values → OpeningState → OpeningState → Result X SumcheckError → Type 0
LeavesClaim t asked v before after (Ok x) = (counts_of v ≡ asked) × AddsConcrete t (opened (point_at t before.history) v.current v.next) before after
LeavesClaim t asked v before after (Err NoMemory) = (counts_of v ≡ asked) × AddsNothing t before after
LeavesClaim t asked v before after (Err e) = IsMisshapen 0 asked (counts_of v) e × (after ≡ before)
