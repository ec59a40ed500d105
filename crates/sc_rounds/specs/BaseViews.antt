-- What clauses see of a table of base elements under weights and a claim.
use Rattle.std.specs.Prelude.{ℕ}
use Rattle.sc_challenger.specs.Parties.{Party, channel_by}
use Rattle.std.specs.declared.cmp.PartialEq.{Ghosts as PartialEqOf}
use Rattle.sc_field.specs.declared.field.Field.{Ghosts as FieldOf}
use Rattle.sc_field.specs.declared.algebra.Algebra.{Ghosts as AlgebraOf}
use Rattle.sc_field.specs.declared.algebra.ExtensionField.{Ghosts as ExtensionOf}
use Rattle.sc_transcript.specs.declared.data.SumcheckData.{SumcheckData}
use Rattle.sc_transcript.specs.Data.{wire_in}
use Rattle.sc_rounds.specs.declared.strategy.base.BaseProduct.{BaseProduct}
use Rattle.sc_definitions.specs.ProverViews.{ProverView, setting_at, prover_state_at}
use Rattle.sc_rounds.specs.BaseProducts.{based}
use Rattle.sc_transcript.specs.Batches.{Batch, batch_at}

module _ {F EF : Type 0} {f : FieldOf F} {p : PartialEqOf F} {x : ExtensionOf EF F} {a : AlgebraOf EF F} {e : FieldOf EF} {q : PartialEqOf EF} where
  -- what a prover of the images would show
  abbrev pub base_shown : BaseProduct F EF f p x a e q → ProverView
  base_shown t = based (λ y. a.embedding (f.number y)) e.number t.basis t.order t.evals.now t.weights t.sum

  -- the batch of so many rounds at a difficulty that is asked of it, with data, where a challenger answers by these rules and has this history
  abbrev pub base_batch_of : BaseProduct F EF f p x a e q → SumcheckData F EF → Party → ℕ → ℕ → Batch
  base_batch_of t d party rounds bits =
      batch_at (setting_at (channel_by party x.extension f.ops.size bits) e.ops (base_shown t)) (prover_state_at (base_shown t) party.history (wire_in f.number e.number d)) x.DEGREE rounds
