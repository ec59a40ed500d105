-- The way of a job whose statements claim their true values.
use Rattle.std.proofs.Common.{◌≡◌, List, length, Option, Some, None, IfSome, refl, sym, ◌∙◌, ap, subst}
use Rattle.std.specs.declared.cmp.PartialEq.{Ghosts as PartialEqOf}
use Rattle.sc_definitions.specs.declared.events.Event.{Event}
use Rattle.sc_definitions.specs.Events.{Rules}
use Rattle.sc_field.specs.declared.field.Field.{Ghosts as FieldOf}
use Rattle.sc_field.specs.declared.algebra.Algebra.{Ghosts as AlgebraOf}
use Rattle.sc_field.specs.declared.algebra.ExtensionField.{Ghosts as ExtensionOf}
use Rattle.sc_table.specs.declared.strategy.Strategy.TheVariants.{SmallValue}
use Rattle.sc_constraints.specs.FalseClaims.{capped}
use Rattle.sc_svo.specs.Batches.{batch_in}
use Rattle.sc_jobs.specs.declared.job.Job.{Job}
use Rattle.sc_audit.specs.declared.ways.Way.{Way}
use Rattle.sc_audit.specs.declared.ways.Way.TheVariants as ways
use Rattle.sc_audit.specs.declared.ways.Batched.{Batched}
use Rattle.sc_jobs.specs.Cases.{problem_in, task_in, asked_of}
use Rattle.sc_jobs.specs.Figures.{false_claim_of}
use Rattle.sc_jobs.specs.Refusals.{or_later, basis_refusal, shape_refusal, strategy_refusal, false_refusal, refusal_for, task_refusal, refusal_of}
use Rattle.sc_audit.specs.SmallRounds.{IsSimpleWay}
use Rattle.sc_jobs.specs.Taken.{IsBatchOf}
use Rattle.sc_jobs.specs.Stated.{truly_stated, IsRestated}
use Rattle.sc_audit.specs.Ways.{IsWayOf, IsBatchedFor}
use Rattle.sc_jobs.proofs.StatedLaws.{true-stated, strategy-stated, batch-stated}

module _ {F EF : Type 0} {f : FieldOf F} {p : PartialEqOf F} {x : ExtensionOf EF F} {a : AlgebraOf EF F} {e : FieldOf EF} {q : PartialEqOf EF} where
  module _ (old now : Job F EF f p x a e q) where
    module _ (kept : IsRestated old now) (stated : problem_in now ≡ truly_stated e.ops (problem_in old)) where
      -- the batch of the old job is that of the new one
      pub small-way : (b : Batched F EF f p x a e q) → IsBatchedFor old b → IsWayOf now (ways.SmallValue b.batch)
      small-way b is =
          let o = e.ops in
          let s = SmallValue (length (batch_in b.batch).grids) in
          record {
            mode = kept.mode ∙ is.mode;
            fits = ap (λ k. strategy_refusal k s) stated ∙ strategy-stated o (problem_in old) s ∙ is.fits;
            all_true = ap (false_claim_of o) stated ∙ true-stated o (problem_in old);
            ready = subst (λ k. IsBatchOf o k (batch_in b.batch)) (sym stated) (batch-stated o (problem_in old) (batch_in b.batch) is.batch);
          }

      -- so is a way that takes nothing
      simple-way : (way : Way F EF f p x a e q) → IsSimpleWay now way → IsWayOf now way
      simple-way ways.Plain is = record { mode = is; fits = refl; all_true = ap (false_claim_of e.ops) stated ∙ true-stated e.ops (problem_in old); ready = tt }
      simple-way ways.Represented is = record {
        mode = is.0;
        fits = ap basis_refusal is.1;
        all_true = ap (false_claim_of e.ops) stated ∙ true-stated e.ops (problem_in old);
        ready = is.1;
      }
      simple-way (ways.SmallValue batch) is = absurd is

      pub simple-ways : (found : Option (Way F EF f p x a e q)) → IfSome found (IsSimpleWay now) → IfSome found (IsWayOf now)
      simple-ways None is = tt
      simple-ways (Some way) is = simple-way way is

  -- a batch that is given
  pub given-batch : (job : Job F EF f p x a e q) (found : Option (Batched F EF f p x a e q)) (b : Batched F EF f p x a e q) → found ≡ Some b → IfSome found (IsBatchedFor job) → IsBatchedFor job b
  given-batch job found b is given = subst (λ k. IfSome k (IsBatchedFor job)) is given

  -- a way that is given
  pub given-way : (job : Job F EF f p x a e q) (found : Option (Way F EF f p x a e q)) (way : Way F EF f p x a e q) → found ≡ Some way → IfSome found (IsWayOf job) → IsWayOf job way
  given-way job found way is given = subst (λ k. IfSome k (IsWayOf job)) is given

  -- nothing of the job is refused then
  pub way-unrefused : (job : Job F EF f p x a e q) (way : Way F EF f p x a e q) (R : Rules) (h : List Event) → IsWayOf job way → shape_refusal (asked_of job R h) ≡ None → refusal_of (asked_of job R h) ≡ None
  way-unrefused job way R h is shape =
      let false_one = false_refusal (capped (false_claim_of e.ops (problem_in job))) in
      ap (λ s. or_later s (task_refusal (asked_of job R h))) shape
      ∙ ap (λ m. refusal_for (asked_of job R h) (task_in f.number e.number m)) is.mode
      ∙ ap (λ r. or_later r false_one) is.fits
      ∙ ap (λ found. false_refusal (capped found)) is.all_true
