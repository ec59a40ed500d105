-- A batch of all that a layout has recorded, beside a verifier that has recorded the same.
use Rattle.std.proofs.Common.{◌≡◌, ℕ, List, Result, Ok, Err, OnErr, inl, refl, ap, sym, subst, ◌∙◌}
use Rattle.sc_definitions.specs.declared.events.Event.{Event}
use Rattle.sc_definitions.specs.Ring.{Ops, IsRing, plus, times, power}
use Rattle.sc_definitions.specs.Tables.{Order, prefix, suffix}
use Rattle.sc_definitions.specs.Events.{Rules, Extension}
use Rattle.sc_definitions.specs.ProverViews.{ProverView}
use Rattle.sc_definitions.specs.Statements.{batched_claim, claimed_values}
use Rattle.sc_definitions.proofs.RingLaws.{plus-zero, times-zero}
use Rattle.sc_definitions.proofs.StatementLaws.{element-batched_by_powers}
use Rattle.rand_core.specs.Stream.{Stream}
use Rattle.sc_commitments.specs.Draws.{SomeMasksDrawn}
use Rattle.sc_commitments.proofs.CodeLaws.{none-drawn}
use Rattle.sc_challenger.specs.Parties.{Party}
use Rattle.sc_layout.specs.Openings.{Laid, Recorded, statements_of}
use Rattle.sc_layout.specs.Verifiers.{Told}
use Rattle.sc_transcript.specs.declared.error.SumcheckError.{SumcheckError}
use Rattle.sc_transcript.specs.declared.error.SumcheckError.TheVariants.{NoMemory, NoWitness}
use Rattle.sc_zk_definitions.specs.Masks.{aux_after}
use Rattle.sc_zk_definitions.specs.MaskedTranscripts.{batching_at}
use Rattle.sc_zk_transcript.specs.declared.shape.ZkSumcheckShape.{ZkSumcheckShape}
use Rattle.sc_zk_transcript.specs.Shapes.{fixed_by}
use Rattle.sc_zk_rounds.specs.Handoffs.{AskedMasks}
use Rattle.sc_zk_simulators.specs.Simulations.{Answer, Simulation, LeavesSimulated}
use Rattle.sc_zk_simulators.specs.InStep.{RunFigures, SimulatesInStep}
use Rattle.sc_zk_layout.specs.Grids.{side_scaled, with_side_scaled}
use Rattle.sc_zk_layout.specs.Recorded.{laid_by_draw, recorded_batch}
use Rattle.sc_zk.specs.Recorded.{recorded_claim}

-- the batch over a challenger's copy is that over the challenger
pub copied-recorded : (base o : Ops) (E : Extension) (s : ZkSumcheckShape) (p q : Party) (l : Laid) (m : AskedMasks) → q.rules ≡ p.rules → q.history ≡ p.history →
    recorded_batch base o E s q l m ≡ recorded_batch base o E s p l m
copied-recorded base o E s p q l m rules history =
    let of = λ (R : Rules) (h : List Event). recorded_batch base o E s (record { rules = R; history = h; spare = 0 }) l m in
    ap (λ R. of R q.history) rules ∙ ap (of p.rules) history

-- the verifier's claim is the prover's, where they have recorded the same
pub claim-same : (o : Ops) → IsRing o → (E : Extension) (p : Party) (s : ZkSumcheckShape) (v : Told) (l : Laid) → v.recorded ≡ l.recorded →
    recorded_claim o p E (fixed_by s) v ≡ plus o (laid_by_draw p E o s l).claim 0
unfolding batched_claim
claim-same o ring E p s v l same =
    let alpha = batching_at p.rules E p.history (fixed_by s) in
    ap (λ (b : Recorded). batched_claim o alpha 0 (statements_of b)) same
    ∙ sym (plus-zero o ring (batched_claim o alpha 0 (statements_of l.recorded)) ∙ element-batched_by_powers o ring alpha 0 (claimed_values (statements_of l.recorded)))

-- without aux nothing is left of it
pub nothing-carried : (o : Ops) → IsRing o → (eps half n : ℕ) → 0 ≡ times o eps (aux_after o half 0 n)
nothing-carried o ring eps half n = sym (ap (times o eps) (times-zero o ring (power o half n)) ∙ times-zero o ring eps)

-- whichever side is scaled, the claim is
pub scaled-claim : (o : Ops) (s : ProverView) (x : ℕ) → (with_side_scaled o s x).claim ≡ times o s.claim x
scaled-claim o s x = cases s.order where
  cases : (d : Order) → (side_scaled d o s x).claim ≡ times o s.claim x
  cases prefix = refl
  cases suffix = refl

-- a simulator's refusal: the verifier has not begun
pub falls-out : {X Y : Type 0} (view : X → Answer) (figures : Y → RunFigures) (o : Ops) (s s' : Simulation) (h : List Event) (e : SumcheckError) (result : Result Y SumcheckError) → s' ≡ s → result ≡ Err e →
    LeavesSimulated {X = X} view s' (Err e) h → SimulatesInStep figures o s result s.batch.begun
falls-out {X} {Y} view figures o s s' h e result same is left =
    subst (λ r. SimulatesInStep figures o s r s.batch.begun) (sym is) (cases e (subst (λ (x : Simulation). LeavesSimulated {X = X} view x (Err e) h) same left)) where
      cases : (e : SumcheckError) → LeavesSimulated {X = X} view s (Err e) h → SimulatesInStep {X = Y} figures o s (Err e) s.batch.begun
      cases NoMemory left = inl (inl refl)
      cases (NoWitness i) left = record { simulated = h; lacks = left; history = refl }
      cases e left = absurd left

-- no mask is drawn
pub no-masks-drawn : {T E : Type 0} (result : Result T E) (message randomness : Stream → List ℕ × Stream) (n : ℕ) (s : Stream) → OnErr result (SomeMasksDrawn message randomness n s s)
no-masks-drawn (Ok x) message randomness n s = _
no-masks-drawn {T} (Err e) message randomness n s = inl (none-drawn {T = T} (Err e) message n s)
