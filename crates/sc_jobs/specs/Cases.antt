-- A job by the numbers of its elements, and what is asked with it.
use Rattle.std.specs.Prelude.{ℕ, List, ◌++◌, length, Option}
use Rattle.std.specs.Option.{option_map}
use Rattle.std.specs.declared.cmp.PartialEq.{Ghosts as PartialEqOf}
use Rattle.sc_definitions.specs.declared.events.Event.{Event}
use Rattle.sc_definitions.specs.Ring.{Ops}
use Rattle.sc_definitions.specs.Tables.{entries}
use Rattle.sc_definitions.specs.Events.{Rules, words}
use Rattle.sc_definitions.specs.Seeds.{quadratic_seed}
use Rattle.sc_definitions.specs.Channels.{Channel, channel, VerifierState, verifier_state}
use Rattle.sc_definitions.specs.Problem.{Problem, claim_of}
use Rattle.sc_field.specs.declared.field.Field.{Ghosts as FieldOf}
use Rattle.sc_field.specs.declared.algebra.Algebra.{Ghosts as AlgebraOf}
use Rattle.sc_field.specs.declared.algebra.ExtensionField.{Ghosts as ExtensionOf}
use Rattle.sc_table.specs.Strategy.{basis_of, order_of}
use Rattle.sc_constraints.specs.Constraints.{constraint_arity, constraint_challenge, constraint_power, constraint_statements}
use Rattle.sc_transcript.specs.declared.data.SumcheckData.{SumcheckData}
use Rattle.sc_transcript.specs.Data.{messages_in, witnesses_in}
use Rattle.sc_table.specs.declared.strategy.Strategy.{Strategy}
use Rattle.sc_jobs.specs.declared.job.Mode.{Mode}
use Rattle.sc_jobs.specs.declared.job.Mode.TheVariants.{Build, Check}
use Rattle.sc_jobs.specs.declared.job.Job.{Job}

-- a proof that is handed in: the values that each round sends, and the witnesses
pub record Given : Type 0 where
  pub messages : List (List ℕ)
  pub witnesses : List ℕ

-- what is done: the rounds are built, or those of a proof are checked
pub data Task : Type 0 where
  build : Strategy → Task
  check : Option Given → Task

-- a table of so many rows, the problem that it has with the statements, and what is done
pub record Case : Type 0 where
  pub rows : ℕ
  pub problem : Problem
  pub task : Task

-- What is asked: a case, over the ring of its challenges, with rounds that go over a channel after a history. The difficulty is the channel's.
pub record Asked : Type 0 where
  pub case : Case
  pub ops : Ops
  pub channel : Channel
  pub history : List Event

-- the same with another task
abbrev pub with_task : Asked → Task → Asked
with_task q task = record q { case = record q.case { task = task } }

-- where the first round stands: after the seed, which is empty for no rounds, and under the batched claim
abbrev pub start_of : Asked → VerifierState
start_of q =
    verifier_state (q.history ++ words (quadratic_seed q.channel.extension.degree q.case.problem.basis q.channel.bits q.case.problem.variables)) (claim_of q.ops q.case.problem)

-- ---- views

-- the proof that data is
abbrev pub given_in : {F EF : Type 0} → (F → ℕ) → (EF → ℕ) → SumcheckData F EF → Given
given_in base number d = record { messages = messages_in number d; witnesses = witnesses_in base d }

-- what a mode asks for
abbrev pub task_in : {F EF : Type 0} → (F → ℕ) → (EF → ℕ) → Mode F EF → Task
task_in base number (Build strategy) = build strategy
task_in base number (Check proof) = check (option_map (given_in base number) proof)

module _ {F EF : Type 0} {f : FieldOf F} {p : PartialEqOf F} {x : ExtensionOf EF F} {a : AlgebraOf EF F} {e : FieldOf EF} {q : PartialEqOf EF} where
  -- the problem that a job states; its table is that of the images in the extension
  abbrev pub problem_in : Job F EF f p x a e q → Problem
  problem_in job = record {
    basis = basis_of job.basis;
    order = order_of job.order;
    variables = constraint_arity job.constraint;
    table = λ b. a.embedding (entries f.number job.table.items b);
    statements = constraint_statements (λ y. a.embedding (f.number y)) e.number job.constraint;
    batching = constraint_challenge e.number job.constraint;
    initial = constraint_power job.constraint;
  }

  -- the case that a job is
  abbrev pub case_in : Job F EF f p x a e q → Case
  case_in job = record {
    rows = length job.table.items;
    problem = problem_in job;
    task = task_in f.number e.number job.mode;
  }

  -- what is asked with it of a challenger that answers by these rules and has this history
  abbrev pub asked_of : Job F EF f p x a e q → Rules → List Event → Asked
  asked_of job R h = record {
    case = case_in job;
    ops = e.ops;
    channel = channel R x.extension f.ops.size job.pow_bits;
    history = h;
  }

  -- what is asked where another task is done with it
  abbrev pub asked_to : Job F EF f p x a e q → Task → Rules → List Event → Asked
  asked_to job task R h = with_task (asked_of job R h) task
