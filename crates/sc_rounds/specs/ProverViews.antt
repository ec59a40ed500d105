-- What clauses see of the two provers.
use Rattle.std.specs.Prelude.{ℕ, List, Option, Some, None}
use Rattle.sc_challenger.specs.Parties.{Party, channel_by}
use Rattle.std.specs.declared.cmp.PartialEq.{Ghosts as PartialEqOf}
use Rattle.sc_definitions.specs.declared.events.Event.{Event}
use Rattle.sc_definitions.specs.ProverStates.{ProverState}
use Rattle.sc_field.specs.declared.field.Field.{Ghosts as FieldOf}
use Rattle.sc_field.specs.declared.algebra.Algebra.{Ghosts as AlgebraOf}
use Rattle.sc_field.specs.declared.algebra.ExtensionField.{Ghosts as ExtensionOf}
use Rattle.sc_field.specs.declared.representation.FromTable.{Ghosts as FromTableOf}
use Rattle.sc_constraints.specs.declared.constraint.Constraint.{Constraint}
use Rattle.sc_transcript.specs.Data.{wire_in}
use Rattle.sc_transcript.specs.declared.data.SumcheckData.{SumcheckData}
use Rattle.sc_rounds.specs.declared.strategy.SumcheckProver.{SumcheckProver}
use Rattle.sc_rounds.specs.declared.strategy.repr.ReprSumcheckProver.{ReprSumcheckProver}
use Rattle.sc_rounds.specs.Provers.{Stated, held_shown, stored_of, stated, stated_if_some, IsTrueConstraint, IsTrueIfSome, with_taken}
use Rattle.sc_definitions.specs.ProverViews.{ProverView, Stored, imaged, settled_as, setting_at, prover_state_at}
use Rattle.sc_transcript.specs.Batches.{Batch, batch_at}

module _ {F EF : Type 0} {f : FieldOf F} {p : PartialEqOf F} {x : ExtensionOf EF F} {a : AlgebraOf EF F} {e : FieldOf EF} {q : PartialEqOf EF} where
  -- what a prover shows
  abbrev pub shown_by : SumcheckProver F EF f p x a e q → ProverView
  shown_by s = held_shown e.ops e.number s.rounds.poly s.rounds.held s.rounds.sum

  -- what is kept of it
  abbrev pub stored_by : SumcheckProver F EF f p x a e q → Stored
  stored_by s = stored_of e.number s.rounds.poly s.rounds.held

  -- a constraint as it takes it in, if there is one
  abbrev pub stated_to : SumcheckProver F EF f p x a e q → Option (Constraint F EF) → Option Stated
  stated_to s c = stated_if_some (λ y. a.embedding (f.number y)) e.number c

  -- a constraint is true of it
  abbrev pub IsTrueOf : SumcheckProver F EF f p x a e q → Constraint F EF → Type 0
  IsTrueOf s c = IsTrueConstraint e.ops (shown_by s) (stated (λ y. a.embedding (f.number y)) e.number c)

  -- a constraint, if there is one, is
  abbrev pub IsNoneOrTrueOf : SumcheckProver F EF f p x a e q → Option (Constraint F EF) → Type 0
  IsNoneOrTrueOf s c = IsTrueIfSome e.ops (shown_by s) (stated_to s c)

  -- what it shows with a constraint taken in, if there is one
  abbrev pub shown_with : SumcheckProver F EF f p x a e q → Option (Constraint F EF) → ProverView
  shown_with s c = with_taken e.ops (shown_by s) (stated_to s c)

  -- where its rounds stand, by data and a history
  abbrev pub prover_state_of : SumcheckProver F EF f p x a e q → SumcheckData F EF → List Event → ProverState
  prover_state_of s d h = prover_state_at (shown_by s) h (wire_in f.number e.number d)

  -- what is kept of it then: where one is taken in, the tables are settled first
  abbrev pub stored_with : SumcheckProver F EF f p x a e q → Option (Constraint F EF) → Stored
  stored_with s None = stored_by s
  stored_with s (Some c) = settled_as (shown_with s (Some c))

  -- the batch of so many rounds at a difficulty, with a constraint if there is one, that is asked of it where a challenger answers by these rules and has
  -- this history
  abbrev pub batch_of : SumcheckProver F EF f p x a e q → Option (Constraint F EF) → SumcheckData F EF → Party → ℕ → ℕ → Batch
  batch_of s c d party rounds bits =
      batch_at (setting_at (channel_by party x.extension f.ops.size bits) e.ops (shown_by s)) (prover_state_at (shown_with s c) party.history (wire_in f.number e.number d)) x.DEGREE rounds

module _ {F EF R : Type 0} {f : FieldOf F} {p : PartialEqOf F} {x : ExtensionOf EF F} {a : AlgebraOf EF F} {e : FieldOf EF} {q : PartialEqOf EF}
    {t : FromTableOf R EF} {r : FieldOf R} {k : PartialEqOf R} where
  -- what a prover over a representation shows, by the images of its numbers
  abbrev pub image_shown_by : ReprSumcheckProver F EF R f p x a e q t r k → ProverView
  image_shown_by s = imaged t.to_number (held_shown r.ops r.number s.rounds.poly s.rounds.held s.rounds.sum)

  -- what is kept of it
  abbrev pub image_stored_by : ReprSumcheckProver F EF R f p x a e q t r k → Stored
  image_stored_by s = stored_of (λ y. t.to_number (r.number y)) s.rounds.poly s.rounds.held

  -- where its rounds stand
  abbrev pub image_prover_state_of : ReprSumcheckProver F EF R f p x a e q t r k → SumcheckData F EF → List Event → ProverState
  image_prover_state_of s d h = prover_state_at (image_shown_by s) h (wire_in f.number e.number d)

  -- the batch of so many rounds at a difficulty that is asked of it
  abbrev pub image_batch_of : ReprSumcheckProver F EF R f p x a e q t r k → SumcheckData F EF → Party → ℕ → ℕ → Batch
  image_batch_of s d party rounds bits =
      batch_at (setting_at (channel_by party x.extension f.ops.size bits) e.ops (image_shown_by s)) (image_prover_state_of s d party.history) x.DEGREE rounds
