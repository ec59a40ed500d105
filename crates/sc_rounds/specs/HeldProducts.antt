-- What clauses see of a pair under a claim, of which a challenge may be held.
use Rattle.std.specs.Prelude.{◌≡◌, ℕ, List, map, Option, Some}
use Rattle.std.specs.declared.cmp.PartialEq.{Ghosts as PartialEqOf}
use Rattle.sc_definitions.specs.Ring.{Ops}
use Rattle.sc_definitions.specs.Events.{Extension}
use Rattle.sc_definitions.specs.Channels.{Channel, Wire}
use Rattle.sc_definitions.specs.ProverStates.{Setting, ProverState}
use Rattle.sc_field.specs.declared.field.Field.{Ghosts as FieldOf}
use Rattle.sc_challenger.specs.Parties.{Party}
use Rattle.sc_challenger.specs.declared.challenger.Challenger.{Ghosts as ChallengerOf}
use Rattle.sc_transcript.specs.declared.driver.RoundShape.{Ghosts as RoundShapeOf}
use Rattle.sc_transcript.specs.declared.driver.Transcript.{Transcript}
use Rattle.sc_transcript.specs.declared.data.SumcheckData.{SumcheckData}
use Rattle.sc_transcript.specs.Drivers.{channel_of}
use Rattle.sc_transcript.specs.Transcripts.{driver_in}
use Rattle.sc_transcript.specs.Data.{wire_in}
use Rattle.sc_rounds.specs.declared.held_product.HeldProduct.{HeldProduct}
use Rattle.sc_rounds.specs.declared.product_polynomial.ProductPolynomial.{ProductPolynomial}
use Rattle.sc_transcript.specs.Batches.{Batch, batch_at, UnderWay}
use Rattle.sc_rounds.specs.Provers.{held_shown, stored_of}
use Rattle.sc_definitions.specs.ProverViews.{ProverView, Stored, imaged, setting_at, prover_state_at}

module _ {F EF : Type 0} {e : FieldOf EF} {q : PartialEqOf EF} where
  -- its pair, and the challenge that this is not bound at yet
  abbrev pub pair_in : HeldProduct F EF e q → ProductPolynomial F EF
  pair_in t = t.poly

  abbrev pub held_in : HeldProduct F EF e q → Option EF
  held_in t = t.held

  -- what it shows
  abbrev pub shown_in : HeldProduct F EF e q → ProverView
  shown_in t = held_shown e.ops e.number t.poly t.held t.sum

  -- what it shows, by the images of its numbers
  abbrev pub image_in : (ℕ → ℕ) → HeldProduct F EF e q → ProverView
  image_in h t = imaged h (shown_in t)

  -- what is kept of it, by the images of its numbers
  abbrev pub image_stored_in : (ℕ → ℕ) → HeldProduct F EF e q → Stored
  image_stored_in h t = stored_of (λ x. h (e.number x)) t.poly t.held

-- the batch of so many rounds that is asked of it, over a channel and an extension of a degree, from a challenger's history and a wire on
abbrev pub batch_asked : Channel → Ops → ProverView → Party → Wire → ℕ → ℕ → Batch
batch_asked c o s party sent degree rounds = batch_at (setting_at c o s) (prover_state_at s party.history sent) degree rounds

module _ {C F EG S P : Type 0} {c : ChallengerOf C F} {f : FieldOf F} {q : PartialEqOf F} {r : RoundShapeOf S} where
  -- what stays where it is played in a transcript
  abbrev pub setting_over : Extension → Ops → ProverView → Transcript C F EG S P c f q r → Setting
  setting_over E o s t = setting_at (channel_of E (driver_in t)) o s

  -- where its rounds stand in a transcript, with data
  abbrev pub prover_state_over : (EG → ℕ) → ProverView → Transcript C F EG S P c f q r → SumcheckData F EG → ProverState
  prover_state_over sent s t d = prover_state_at s (driver_in t).history (wire_in f.number sent d)

  -- the rounds that are under way there, with the challenges of those before
  abbrev pub course_over : Extension → Ops → (EG → ℕ) → ProverView → Transcript C F EG S P c f q r → SumcheckData F EG → List EG → UnderWay
  course_over E o sent s t d rs = record { setting = setting_over E o s t; now = prover_state_over sent s t d; drawn = map sent rs }

-- A round has drawn r: its tables are kept as they were before it, and r is held.
pub record Holds (before : ProverView) (r : ℕ) (stored : Stored) : Type 0 where
  pub evals : stored.evals ≡ before.evals
  pub weights : stored.weights ≡ before.weights
  pub held : stored.held ≡ Some r
