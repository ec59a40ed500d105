-- A batch under masks of all that a layout has recorded.
use Rattle.std.specs.Prelude.{ℕ, ◌-◌, List, length, map, Result}
use Rattle.std.specs.declared.cmp.PartialEq.{Ghosts as PartialEqOf}
use Rattle.sc_definitions.specs.Ring.{Ops}
use Rattle.sc_definitions.specs.Tables.{evaluation}
use Rattle.sc_definitions.specs.Events.{Extension}
use Rattle.sc_definitions.specs.Channels.{empty_wire}
use Rattle.sc_definitions.specs.ProverStates.{entries_of}
use Rattle.sc_definitions.specs.Statements.{batched_weight, batched_claim}
use Rattle.sc_definitions.specs.ProverViews.{ProverView}
use Rattle.sc_challenger.specs.Parties.{Party}
use Rattle.sc_field.specs.declared.field.Field.{Ghosts as FieldOf}
use Rattle.sc_field.specs.declared.algebra.Algebra.{Ghosts as AlgebraOf}
use Rattle.sc_field.specs.declared.algebra.ExtensionField.{Ghosts as ExtensionOf}
use Rattle.sc_layout.specs.Openings.{Laid, statements_of}
use Rattle.sc_rounds.specs.declared.strategy.SumcheckProver.{SumcheckProver}
use Rattle.sc_rounds.specs.ProverViews.{shown_by, stored_by}
use Rattle.sc_zk_definitions.specs.MaskedTranscripts.{batching_at}
use Rattle.sc_zk_definitions.specs.MaskedBatches.{MaskedBatch}
use Rattle.sc_zk_transcript.specs.declared.shape.ZkSumcheckShape.{ZkSumcheckShape}
use Rattle.sc_zk_transcript.specs.Shapes.{fixed_by}
use Rattle.sc_definitions.specs.declared.events.Event.{Event}
use Rattle.sc_transcript.specs.declared.error.SumcheckError.{SumcheckError}
use Rattle.sc_zk_rounds.specs.declared.data.ZkSumcheckData.{ZkSumcheckData}
use Rattle.sc_zk_rounds.specs.declared.data.Handoff.{Handoff}
use Rattle.sc_zk_rounds.specs.Data.{sent_in}
use Rattle.sc_zk_rounds.specs.Handoffs.{AskedMasks, Handed, EndsMaskedBy}
use Rattle.sc_zk_rounds.specs.Views.{Player, batch_of, residual_in, handed_in}
use Rattle.sc_zk_layout.specs.Grids.{bound_entries, with_side_scaled}

-- What its rounds begin with under a batching challenge: the table, the batched weights of all that is recorded, and the batched claim.
abbrev pub laid_shown : Ops → Laid → ℕ → ProverView
laid_shown o l alpha = record {
  basis = evaluation;
  order = l.order;
  variables = l.variables;
  evals = entries_of l.variables l.rows;
  weights = entries_of l.variables (batched_weight o alpha 0 (statements_of l.recorded));
  claim = batched_claim o alpha 0 (statements_of l.recorded);
}

-- What rounds with these challenges leave of it, with a claim.
abbrev pub laid_after : Ops → Laid → ℕ → List ℕ → ℕ → ProverView
laid_after o l alpha rs claim =
    let m = l.variables - length rs in
    record {
      basis = evaluation;
      order = l.order;
      variables = m;
      evals = bound_entries o l.order rs m l.rows;
      weights = bound_entries o l.order rs m (batched_weight o alpha 0 (statements_of l.recorded));
      claim = claim;
    }

-- what they begin with under the challenge that is drawn after the seed of a shape
abbrev pub laid_by_draw : Party → Extension → Ops → ZkSumcheckShape → Laid → ProverView
laid_by_draw p E o s l = laid_shown o l (batching_at p.rules E p.history (fixed_by s))

-- what plays it, with nothing on the wire
abbrev pub recorded_player : Party → Extension → Ops → ZkSumcheckShape → Laid → Player
recorded_player p E o s l = record { party = p; shown = laid_by_draw p E o s l; wire = empty_wire }

-- the batch of it under these masks: aux is zero
abbrev pub recorded_batch : Ops → Ops → Extension → ZkSumcheckShape → Party → Laid → AskedMasks → MaskedBatch
recorded_batch base o E s p l m = batch_of base o E s (recorded_player p E o s l) m

module _ {F EF : Type 0} {f : FieldOf F} {p : PartialEqOf F} {x : ExtensionOf EF F} {a : AlgebraOf EF F} {e : FieldOf EF} {q : PartialEqOf EF} where
  -- a prover of what is left, with the combination, where the rounds had these challenges
  abbrev pub played_in : List EF → SumcheckProver F EF f p x a e q × EF → Handed
  played_in rs r = record { shown = shown_by r.0; held = (stored_by r.0).held; randomness = map e.number rs; eps = e.number r.1 }

  -- how a batch ends whose prover is given up, by what it has put on the wire
  abbrev pub EndsRecorded : {K D : Type 0} → MaskedBatch → List Event → ZkSumcheckData F EF → Result (Handoff (SumcheckProver F EF f p x a e q) EF K D) SumcheckError → Type 0
  EndsRecorded {K} {D} b h d result = EndsMaskedBy with_side_scaled (handed_in {K = K} {D = D} residual_in e.number) b h (sent_in f.number e.number d) result
