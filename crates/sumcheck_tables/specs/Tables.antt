-- What is asked of a table in memory, and what is answered.
use Rattle.std.specs.Prelude.{◌≡◌, ◌⊎◌, ◌*◌, ◌==◌, ℕ, Bool, true, ◌&&◌, List, [], ◌∷◌, length, take, drop, map, nat_lt, if◌then◌else◌, Option, Some, None, Result, Ok, Err}
use Rattle.std.specs.List.{list_all}
use Rattle.sc_definitions.specs.declared.events.Event.{Event}
use Rattle.sc_definitions.specs.Tables.{Basis, Order, rows_of}
use Rattle.sc_definitions.specs.Events.{Rules}
use Rattle.sc_definitions.specs.Scripted.{scripted_rules}
use Rattle.sc_definitions.specs.Channels.{channel}
use Rattle.sc_definitions.specs.Statements.{Statement, claims, equality}
use Rattle.sc_definitions.specs.Problem.{Problem}
use Rattle.sc_challenger.specs.Hashed.{hash_rules}
use Rattle.sc_audit_errors.specs.declared.error.AuditError.{AuditError}
use Rattle.sc_audit_errors.specs.declared.error.AuditError.TheVariants.{NoMemory}
use Rattle.sc_jobs.specs.declared.report.Report.{Report}
use Rattle.sc_jobs.specs.Cases.{Asked, Case, Given, Task, build, check}
use Rattle.sc_jobs.specs.Figures.{Reported, report_in}
use Rattle.sc_jobs.specs.Results.{answer_to}
use Rattle.sumcheck_members.specs.declared.job.Sizes.{Sizes}
use Rattle.sumcheck_replies.specs.Fields.{Fields, sizes_over}
use Rattle.sumcheck_tables.specs.declared.error.TableError.{TableError}
use Rattle.sumcheck_tables.specs.declared.error.TableError.TheVariants.{Points, NotAnElement, Audit}

-- A table, values that are claimed of it at points of so many coordinates, which stand one after another, and what is done. The draws are those of a
-- script, or of the hash challenger where there is none.
pub record TableCase : Type 0 where
  pub table : List ℕ
  pub variables : ℕ
  pub points : List ℕ
  pub values : List ℕ
  pub batching : ℕ
  pub order : Order
  pub basis : Basis
  pub bits : ℕ
  pub draws : Option (List ℕ)
  pub task : Task

-- ---- numbers of elements

-- each is below a size
abbrev pub are_below : ℕ → List ℕ → Bool
are_below size ns = list_all (λ n. nat_lt n size) ns

abbrev pub draws_below : ℕ → Option (List ℕ) → Bool
draws_below size None = true
draws_below size (Some draws) = are_below size draws

abbrev pub task_below : Sizes → Task → Bool
task_below sizes (build strategy) = true
task_below sizes (check None) = true
task_below sizes (check (Some given)) = list_all (are_below sizes.extension) given.messages && are_below sizes.base given.witnesses

-- each number of it is that of an element of its field
abbrev pub has_elements : Sizes → TableCase → Bool
has_elements sizes c =
    are_below sizes.base c.table && (are_below sizes.extension c.points && (are_below sizes.extension c.values
    && (nat_lt c.batching sizes.extension && (draws_below sizes.base c.draws && task_below sizes c.task))))

-- ---- what is asked

-- the claims of these values at points of n coordinates, which stand one after another
abbrev pub value_claims : ℕ → List ℕ → List ℕ → List Statement
value_claims n points [] = []
value_claims n points (v ∷ vs) = claims (equality (take n points)) v ∷ value_claims n (drop n points) vs

-- its problem
abbrev pub problem_of : (ℕ → ℕ) → TableCase → Problem
problem_of embedding c = record {
  basis = c.basis;
  order = c.order;
  variables = c.variables;
  table = λ b. embedding (rows_of c.table b);
  statements = value_claims c.variables c.points c.values;
  batching = c.batching;
  initial = 0;
}

-- what its challenger answers
abbrev pub rules_of : ℕ → Option (List ℕ) → Rules
rules_of size (Some draws) = scripted_rules draws []
rules_of size None = hash_rules size

-- what it asks of a challenger that answers by these rules and has this history
abbrev pub asked_with : Fields → TableCase → Rules → List Event → Asked
asked_with k c R h = record {
  case = record { rows = length c.table; problem = problem_of k.embedding c; task = c.task };
  ops = k.ops;
  channel = channel R k.extension k.base.size c.bits;
  history = h;
}

-- two ask the same, whatever the challenger's rules and its history
abbrev pub AskSame : (Rules → List Event → Asked) → (Rules → List Event → Asked) → Type 0
AskSame one other = (R : Rules) (h : List Event) → one R h ≡ other R h

-- what it asks of its own
abbrev pub asked_by : Fields → TableCase → Asked
asked_by k c = asked_with k c (rules_of k.base.size c.draws) []

-- ---- what is answered

abbrev pub audited : Result Reported AuditError → Result Reported TableError
audited (Ok r) = Ok r
audited (Err e) = Err (Audit e)

-- each value has a point
abbrev pub has_points : TableCase → Bool
has_points c = length c.points == length c.values * c.variables

-- the answer to what is asked, unless the points are not one for each value, or else a number is none of an element
unfoldable pub table_answer : Fields → TableCase → Result Reported TableError
table_answer k c =
    if has_points c
    then (if has_elements (sizes_over k.base k.ops) c then audited (answer_to (asked_by k c)) else Err NotAnElement)
    else Err Points

-- A result is this answer, or want of memory.
abbrev pub GivesTable : {F EF : Type 0} → (F → ℕ) → (EF → ℕ) → Result Reported TableError → Result (Report F EF) TableError → Type 0
GivesTable base number answer (Ok r) = answer ≡ Ok (report_in base number r)
GivesTable base number answer (Err e) = (e ≡ Audit NoMemory) ⊎ (answer ≡ Err e)
