-- What a verifier of masked rounds has recorded, and the claim that it makes of it.
use Rattle.std.specs.Prelude.{◌≡◌, ℕ, List}
use Rattle.std.specs.declared.cmp.PartialEq.{Ghosts as PartialEqOf}
use Rattle.sc_definitions.specs.Ring.{Ops}
use Rattle.sc_definitions.specs.Events.{Extension}
use Rattle.sc_definitions.specs.Statements.{batched_claim}
use Rattle.sc_challenger.specs.Parties.{Party}
use Rattle.sc_field.specs.declared.field.Field.{Ghosts as FieldOf}
use Rattle.sc_layout.specs.Openings.{Laid, statements_of}
use Rattle.sc_layout.specs.Verifiers.{Told, told_in}
use Rattle.sc_zk_definitions.specs.MaskedTranscripts.{Shape, Head, head, batching_at}
use Rattle.sc_zk_transcript.specs.declared.shape.ZkSumcheckShape.{ZkSumcheckShape}
use Rattle.sc_zk_transcript.specs.Shapes.{fixed_by}
use Rattle.sc_zk_simulators.specs.Drafts.{Draft}
use Rattle.sc_zk_simulators.specs.Simulations.{Simulation, simulation_by}
use Rattle.sc_zk.specs.declared.verifier.ZkVerifier.{ZkVerifier}

-- the batch of all that is recorded, under the challenge that is drawn after the seed
abbrev pub recorded_claim : Ops → Party → Extension → Shape → Told → ℕ
recorded_claim o p E s v = batched_claim o (batching_at p.rules E p.history s) 0 (statements_of v.recorded)

module _ {F EF : Type 0} {e : FieldOf EF} {q : PartialEqOf EF} where
  -- what its recording part tells
  abbrev pub recorded_in : ZkVerifier F EF e q → Told
  recorded_in v = told_in v.claims

  -- what stands before the rounds of all that is recorded: the batch of it, the words of the masks' commitment, and their total
  abbrev pub recorded_head : Extension → Party → ZkSumcheckShape → ZkVerifier F EF e q → List ℕ → EF → Head
  recorded_head E p s v ws mu = head (recorded_claim e.ops p E (fixed_by s) (recorded_in v)) ws (e.number mu)

  -- it has recorded what a layout has
  abbrev pub HasRecorded : Laid → ZkVerifier F EF e q → Type 0
  HasRecorded l v = (recorded_in v).recorded ≡ l.recorded

  -- the simulation of a draft for all that it has recorded
  abbrev pub recorded_simulation : {K : Type 0} → Party → Extension → ℕ → ZkSumcheckShape → ZkVerifier F EF e q → Draft K → Simulation
  recorded_simulation p E size s v d = simulation_by p E size s (recorded_claim e.ops p E (fixed_by s) (recorded_in v)) d
