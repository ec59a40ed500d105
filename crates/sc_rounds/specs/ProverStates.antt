-- Where rounds on a pair of tables stand, and what is left where they are refused.
use Rattle.std.specs.Prelude.{ℕ, List, map}
use Rattle.std.specs.declared.cmp.PartialEq.{Ghosts as PartialEqOf}
use Rattle.sc_definitions.specs.declared.events.Event.{Event}
use Rattle.sc_definitions.specs.Ring.{Ops}
use Rattle.sc_definitions.specs.Events.{Extension}
use Rattle.sc_field.specs.declared.field.Field.{Ghosts as FieldOf}
use Rattle.sc_challenger.specs.declared.challenger.Challenger.{Ghosts as ChallengerOf}
use Rattle.sc_definitions.specs.Channels.{Channel, Wire}
use Rattle.sc_definitions.specs.ProverStates.{Setting, ProverState}
use Rattle.sc_transcript.specs.declared.driver.RoundShape.{Ghosts as RoundShapeOf}
use Rattle.sc_transcript.specs.declared.driver.Transcript.{Transcript}
use Rattle.sc_transcript.specs.declared.data.SumcheckData.{SumcheckData}
use Rattle.sc_transcript.specs.Drivers.{channel_of}
use Rattle.sc_transcript.specs.Transcripts.{driver_in}
use Rattle.sc_transcript.specs.Data.{wire_in}
use Rattle.sc_rounds.specs.declared.product_polynomial.ProductPolynomial.{ProductPolynomial}
use Rattle.sc_rounds.specs.Products.{variables_in, basis_in, order_in}

-- what stays: a channel, a ring, and the pair's basis and order
abbrev pub setting_in : {F EF : Type 0} → Channel → Ops → ProductPolynomial F EF → Setting
setting_in c o p = record { channel = c; ops = o; basis = basis_in p; order = order_in p }

-- what moves: the pair's entries and a sum, by their numbers, a history and a wire
abbrev pub prover_state_in : {F EF : Type 0} → (EF → ℕ) → ProductPolynomial F EF → EF → List Event → Wire → ProverState
prover_state_in number p sum h wire = record {
  variables = variables_in p;
  evals = map number p.evals.evals.items;
  weights = map number p.weights.evals.items;
  claim = number sum;
  history = h;
  wire = wire;
}

module _ {C F EF EG S P : Type 0} {c : ChallengerOf C F} {f : FieldOf F} {q : PartialEqOf F} {s : RoundShapeOf S} where
  -- the same where the pair is played in a transcript, whose elements have these parts
  abbrev pub setting_on : {G : Type 0} → Extension → Ops → ProductPolynomial G EF → Transcript C F EG S P c f q s → Setting
  setting_on E o p t = setting_in (channel_of E (driver_in t)) o p

  -- the same where the pair and its sum, by one numbering, are played in a transcript onto data, whose elements have another one
  abbrev pub prover_state_on : {G : Type 0} → (EF → ℕ) → (EG → ℕ) → ProductPolynomial G EF → EF → Transcript C F EG S P c f q s → SumcheckData F EG → ProverState
  prover_state_on number sent p sum t d = prover_state_in number p sum (driver_in t).history (wire_in f.number sent d)
