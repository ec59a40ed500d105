-- Jobs whose statements claim their true values.
use Rattle.std.specs.Prelude.{◌≡◌, ◌⊎◌, ℕ, List, map, vec_len, Option, Some, None, Result, Err}
use Rattle.std.specs.declared.cmp.PartialEq.{Ghosts as PartialEqOf}
use Rattle.sc_definitions.specs.Ring.{Ops}
use Rattle.sc_definitions.specs.Statements.{Kind, Statement}
use Rattle.sc_definitions.specs.Problem.{Problem}
use Rattle.sc_field.specs.declared.field.Field.{Ghosts as FieldOf}
use Rattle.sc_field.specs.declared.algebra.Algebra.{Ghosts as AlgebraOf}
use Rattle.sc_field.specs.declared.algebra.ExtensionField.{Ghosts as ExtensionOf}
use Rattle.sc_constraints.specs.Constraints.{constraint_arity, constraint_challenge, constraint_power}
use Rattle.sc_statements.specs.Claimed.{all_stated_truly}
use Rattle.sc_audit_errors.specs.declared.error.AuditError.{AuditError}
use Rattle.sc_audit_errors.specs.declared.error.AuditError.TheVariants.{NoMemory}
use Rattle.sc_table.specs.Strategy.{basis_of, order_of}
use Rattle.sc_jobs.specs.declared.job.Job.{Job}
use Rattle.sc_jobs.specs.Cases.{Asked, problem_in}
use Rattle.sc_audit_errors.specs.Arities.{arity_of}
use Rattle.sc_jobs.specs.Refusals.{shape_by}

-- the problem whose statements claim their true values, and that is the same otherwise
abbrev pub truly_stated : Ops → Problem → Problem
truly_stated o p = record p { statements = all_stated_truly o p.variables p.table p.statements }

-- the problem that is left of one, where its job's shape has this refusal: itself, or, where there is none, the one with true claims
abbrev pub stated_unless : Option AuditError → Ops → Problem → Problem
stated_unless None o p = truly_stated o p
stated_unless (Some e) o p = p

-- what is left of a problem, by the result: itself or the one with true claims, where there was no memory
abbrev pub LeavesStated : {X : Type 0} → Option AuditError → Ops → Problem → Problem → Result X AuditError → Type 0
LeavesStated first o old now (Err NoMemory) = (now ≡ old) ⊎ (now ≡ truly_stated o old)
LeavesStated first o old now result = now ≡ stated_unless first o old

-- what is asked with it then
abbrev pub asked_truly : Asked → Asked
asked_truly q = record q { case = record q.case { problem = truly_stated q.ops q.case.problem } }

-- what statements speak of
abbrev pub kinds_of : List Statement → List Kind
kinds_of ss = map (λ (s : Statement). s.kind) ss

-- All of a job stays but the values that its statements claim.
pub record IsRestated {F EF : Type 0} {f : FieldOf F} {p : PartialEqOf F} {x : ExtensionOf EF F} {a : AlgebraOf EF F} {e : FieldOf EF} {q : PartialEqOf EF} (old now : Job F EF f p x a e q) : Type 0 where
  pub table : now.table ≡ old.table
  pub basis : now.basis ≡ old.basis
  pub order : now.order ≡ old.order
  pub difficulty : now.pow_bits ≡ old.pow_bits
  pub mode : now.mode ≡ old.mode
  pub arity : constraint_arity now.constraint ≡ constraint_arity old.constraint
  pub challenge : constraint_challenge e.number now.constraint ≡ constraint_challenge e.number old.constraint
  pub power : constraint_power now.constraint ≡ constraint_power old.constraint
  pub kinds : kinds_of (problem_in now).statements ≡ kinds_of (problem_in old).statements

-- it is want of memory, or the refusal that there is
abbrev pub RefusesShape : Option AuditError → AuditError → Type 0
RefusesShape first NoMemory = Unit {0}
RefusesShape first e = first ≡ Some e

module _ {F EF : Type 0} {f : FieldOf F} {p : PartialEqOf F} {x : ExtensionOf EF F} {a : AlgebraOf EF F} {e : FieldOf EF} {q : PartialEqOf EF} where
  -- the refusal of a job's shape at this greatest difficulty, if there is one
  abbrev pub shape_of : Job F EF f p x a e q → ℕ → Option AuditError
  shape_of job max_bits = shape_by (arity_of (vec_len job.table)) max_bits (vec_len job.table) job.pow_bits (constraint_arity job.constraint)
      (basis_of job.basis) (order_of job.order)
