-- Problems and jobs whose statements claim their true values.
use Rattle.std.proofs.Common.{◌≡◌, ℕ, suc, min, List, [], ◌∷◌, length, Option, None, Result, Ok, Err, refl, sym, ◌∙◌, ap}
use Rattle.std.specs.Prelude.{vec_len}
use Rattle.std.specs.declared.cmp.PartialEq.{Ghosts as PartialEqOf}
use Rattle.sc_definitions.specs.declared.events.Event.{Event}
use Rattle.sc_definitions.specs.Ring.{Ops}
use Rattle.sc_definitions.specs.Tables.{entries}
use Rattle.sc_definitions.specs.Events.{Rules}
use Rattle.sc_definitions.specs.Channels.{channel}
use Rattle.sc_definitions.specs.Statements.{Statement, AllTrueOf, IsTrueOf, weights_at, batched_by_powers, batched_weight, weight_of}
use Rattle.sc_definitions.specs.Problem.{Problem, weights_of}
use Rattle.sc_field.specs.declared.field.Field.{Ghosts as FieldOf}
use Rattle.sc_field.specs.declared.algebra.Algebra.{Ghosts as AlgebraOf}
use Rattle.sc_field.specs.declared.algebra.ExtensionField.{Ghosts as ExtensionOf}
use Rattle.sc_table.specs.Strategy.{basis_of, order_of}
use Rattle.sc_table.specs.declared.strategy.Strategy.{Strategy}
use Rattle.sc_table.specs.declared.strategy.Strategy.TheVariants.{Plain, Represented, SmallValue}
use Rattle.sc_constraints.specs.Constraints.{constraint_arity, constraint_challenge, constraint_power}
use Rattle.sc_statements.specs.Claimed.{all_stated_truly}
use Rattle.sc_statements.proofs.FalseSteps.{first_false-none}
use Rattle.sc_svo.specs.Batches.{GridBatch}
use Rattle.sc_svo.specs.Grids.{most_rounds}
use Rattle.sc_audit_errors.specs.Arities.{arity_of}
use Rattle.sc_audit_errors.specs.declared.error.AuditError.{AuditError}
use Rattle.sc_audit_errors.specs.declared.error.AuditError.TheVariants.{NoMemory}
use Rattle.sc_jobs.specs.declared.job.Job.{Job}
use Rattle.sc_jobs.specs.Cases.{problem_in, task_in, asked_of}
use Rattle.sc_jobs.specs.Figures.{false_claim_of}
use Rattle.sc_jobs.specs.Refusals.{or_later, shape_by, shape_refusal, unfit, first_unfit, variables_refusal, basis_refusal, strategy_refusal}
use Rattle.sc_jobs.specs.Taken.{IsBatchOf}
use Rattle.sc_jobs.specs.Stated.{truly_stated, stated_unless, asked_truly, kinds_of, IsRestated, LeavesStated, shape_of}

-- ---- statements

module _ (o : Ops) (n : ℕ) (f : ℕ → ℕ) where
  unfit-stated : (i : ℕ) (ss : List Statement) → first_unfit i (all_stated_truly o n f ss) ≡ first_unfit i ss
  unfolding first_unfit
  unfit-stated i [] = refl
  unfit-stated i (s ∷ ss) = ap (or_later (unfit i s.kind)) (unfit-stated (suc i) ss)

  weights-stated : (ss : List Statement) (b : ℕ) → weights_at o (all_stated_truly o n f ss) b ≡ weights_at o ss b
  weights-stated [] b = refl
  weights-stated (s ∷ ss) b = ap (λ l. weight_of o s.kind b ∷ l) (weights-stated ss b)

  kinds-stated : (ss : List Statement) → kinds_of (all_stated_truly o n f ss) ≡ kinds_of ss
  kinds-stated [] = refl
  kinds-stated (s ∷ ss) = ap (λ l. s.kind ∷ l) (kinds-stated ss)

  truth-stated : (ss : List Statement) → AllTrueOf o n f (all_stated_truly o n f ss)
  unfolding IsTrueOf
  truth-stated [] = tt
  truth-stated (s ∷ ss) = (refl, truth-stated ss)

-- ---- problems

module _ (o : Ops) (p : Problem) where
  -- no statement is false
  pub true-stated : false_claim_of o (truly_stated o p) ≡ None
  true-stated = first_false-none o p.variables p.table 0 (all_stated_truly o p.variables p.table p.statements) (truth-stated o p.variables p.table p.statements)

  -- a strategy fits as it did
  pub strategy-stated : (s : Strategy) → strategy_refusal (truly_stated o p) s ≡ strategy_refusal p s
  strategy-stated Plain = refl
  strategy-stated Represented = refl
  strategy-stated (SmallValue variables) = ap (λ r. or_later (basis_refusal p.basis) (or_later (variables_refusal (min p.variables most_rounds) variables) r)) (unfit-stated o p.variables p.table 0 p.statements)

  -- a batch of it is one of it still
  pub batch-stated : (b : GridBatch) → IsBatchOf o p b → IsBatchOf o (truly_stated o p) b
  unfolding weights_of batched_weight
  batch-stated b is = record {
    basis = is.basis;
    order = is.order;
    variables = is.variables;
    weights = λ row low. is.weights row low ∙ ap (batched_by_powers o p.batching p.initial) (sym (weights-stated o p.variables p.table p.statements row));
    within = is.within;
    grids = is.grids;
  }

-- ---- what an audit leaves

-- the statements claim their true values where the shape is not refused, want of memory aside
pub stated-left : {X : Type 0} (first : Option AuditError) (o : Ops) (p p' : Problem) (r : Result X AuditError) → first ≡ None → (r ≡ Err NoMemory → ⊥) → LeavesStated first o p p' r → p' ≡ truly_stated o p
stated-left first o p p' (Ok x) none some left = left ∙ ap (λ f. stated_unless f o p) none
stated-left first o p p' (Err NoMemory) none some left = absurd (some refl)
stated-left first o p p' (Err e) none some left = left ∙ ap (λ f. stated_unless f o p) none

-- ---- jobs

module _ {F EF : Type 0} {f : FieldOf F} {p : PartialEqOf F} {x : ExtensionOf EF F} {a : AlgebraOf EF F} {e : FieldOf EF} {q : PartialEqOf EF} where
  module _ (old now : Job F EF f p x a e q) where
    -- what is asked with the job whose statements claim their true values
    pub asked-same : IsRestated old now → problem_in now ≡ truly_stated e.ops (problem_in old) → (R : Rules) (h : List Event) → asked_of now R h ≡ asked_truly (asked_of old R h)
    asked-same kept stated R h = λ i. record {
      case = record { rows = length (kept.table i).items; problem = stated i; task = task_in f.number e.number (kept.mode i) };
      ops = e.ops;
      channel = channel R x.extension f.ops.size (kept.difficulty i);
      history = h;
    }

    -- the shape is refused as it was
    pub restated-shape : (R : Rules) (h : List Event) (max_bits : ℕ) → IsRestated old now → vec_len old.table ≡ length old.table.items → max_bits ≡ R.max_bits →
        shape_refusal (asked_of now R h) ≡ shape_of old max_bits
    restated-shape R h max_bits kept rows most =
        (λ i. shape_by (arity_of (length (kept.table i).items)) R.max_bits (length (kept.table i).items) (kept.difficulty i) (kept.arity i) (basis_of (kept.basis i)) (order_of (kept.order i)))
        ∙ sym (ap (λ n. shape_by (arity_of n) R.max_bits n old.pow_bits (constraint_arity old.constraint) (basis_of old.basis) (order_of old.order)) rows)
        ∙ sym (ap (λ m. shape_by (arity_of (vec_len old.table)) m (vec_len old.table) old.pow_bits (constraint_arity old.constraint) (basis_of old.basis) (order_of old.order)) most)

    -- the same of what an audit leaves
    pub asked-stated : {X : Type 0} (R : Rules) (h : List Event) (r : Result X AuditError) → IsRestated old now → shape_refusal (asked_of old R h) ≡ None → (r ≡ Err NoMemory → ⊥) →
        LeavesStated (shape_refusal (asked_of old R h)) e.ops (problem_in old) (problem_in now) r → asked_of now R h ≡ asked_truly (asked_of old R h)
    asked-stated R h r kept none some left = asked-same kept (stated-left (shape_refusal (asked_of old R h)) e.ops (problem_in old) (problem_in now) r none some left) R h

    -- statements that claim their true values, and all else as it was
    pub restated : now.table ≡ old.table → now.basis ≡ old.basis → now.order ≡ old.order → now.pow_bits ≡ old.pow_bits → now.mode ≡ old.mode → constraint_arity now.constraint ≡ constraint_arity old.constraint →
        constraint_challenge e.number now.constraint ≡ constraint_challenge e.number old.constraint → constraint_power now.constraint ≡ constraint_power old.constraint →
        (problem_in now).statements ≡ all_stated_truly e.ops (problem_in old).variables (problem_in old).table (problem_in old).statements → IsRestated old now
    restated table basis order difficulty mode arity challenge power statements = record {
      table = table;
      basis = basis;
      order = order;
      difficulty = difficulty;
      mode = mode;
      arity = arity;
      challenge = challenge;
      power = power;
      kinds = ap kinds_of statements ∙ kinds-stated e.ops (problem_in old).variables (problem_in old).table (problem_in old).statements;
    }

    pub problem-stated : IsRestated old now → (problem_in now).statements ≡ all_stated_truly e.ops (problem_in old).variables (problem_in old).table (problem_in old).statements →
        problem_in now ≡ truly_stated e.ops (problem_in old)
    problem-stated kept statements = λ i. record {
      basis = basis_of (kept.basis i);
      order = order_of (kept.order i);
      variables = kept.arity i;
      table = λ b. a.embedding (entries f.number (kept.table i).items b);
      statements = statements i;
      batching = kept.challenge i;
      initial = kept.power i;
    }
