-- Rounds that begin on the grids of a batch.
use Rattle.std.specs.Prelude.{◌≡◌, ℕ, ◌-◌, ◌≤◌, List, length, Result, Ok, Err}
use Rattle.std.specs.declared.cmp.PartialEq.{Ghosts as PartialEqOf}
use Rattle.sc_definitions.specs.declared.events.Event.{Event}
use Rattle.sc_definitions.specs.Ring.{Ops}
use Rattle.sc_definitions.specs.Tables.{evaluation, rows_of, folded_by}
use Rattle.sc_definitions.specs.Events.{Extension}
use Rattle.sc_definitions.specs.Channels.{Wire, VerifierState}
use Rattle.sc_definitions.specs.ProverStates.{Setting, ProverState, entries_of, IsPlayed}
use Rattle.sc_definitions.specs.Problem.{Problem}
use Rattle.sc_field.specs.declared.field.Field.{Ghosts as FieldOf}
use Rattle.sc_field.specs.declared.algebra.Algebra.{Ghosts as AlgebraOf}
use Rattle.sc_field.specs.declared.algebra.ExtensionField.{Ghosts as ExtensionOf}
use Rattle.sc_challenger.specs.Parties.{Party, channel_by}
use Rattle.sc_challenger.specs.declared.challenger.Challenger.{Ghosts as ChallengerOf}
use Rattle.sc_table.specs.declared.strategy.Strategy.{Strategy}
use Rattle.sc_table.specs.declared.strategy.Strategy.TheVariants.{Plain, Represented, SmallValue}
use Rattle.sc_constraints.specs.Constraints.{constraint_arity}
use Rattle.sc_transcript.specs.declared.error.SumcheckError.{SumcheckError}
use Rattle.sc_transcript.specs.declared.driver.RoundShape.{Ghosts as RoundShapeOf}
use Rattle.sc_transcript.specs.declared.driver.Transcript.{Transcript}
use Rattle.sc_transcript.specs.declared.data.SumcheckData.{SumcheckData}
use Rattle.sc_transcript.specs.Drivers.{Driver}
use Rattle.sc_definitions.specs.ProverViews.{setting_at, prover_state_at}
use Rattle.sc_rounds.specs.HeldProducts.{setting_over, prover_state_over}
use Rattle.sc_transcript.specs.Batches.{PlaysFrom, StopsFrom, BreaksOffAt, Batch, batch_at, PlaysWhole}
use Rattle.sc_svo.specs.Batches.{batch_in}
use Rattle.sc_jobs.specs.declared.job.Job.{Job}
use Rattle.sc_jobs.specs.declared.job.Mode.TheVariants.{Build}
use Rattle.sc_audit.specs.declared.ways.Way.{Way}
use Rattle.sc_audit.specs.declared.ways.Way.TheVariants as ways
use Rattle.sc_jobs.specs.Cases.{problem_in}
use Rattle.sc_jobs.specs.BuiltCases.{prover_for}
use Rattle.sc_jobs.specs.Taken.{IsBatchOf}

module _ {F EF : Type 0} {f : FieldOf F} {q : PartialEqOf F} {x : ExtensionOf EF F} {a : AlgebraOf EF F} {e : FieldOf EF} {r : PartialEqOf EF} where
  -- the strategy that a way is of
  abbrev pub strategy_by : Way F EF f q x a e r → Strategy
  strategy_by ways.Plain = Plain
  strategy_by ways.Represented = Represented
  strategy_by (ways.SmallValue batch) = SmallValue (length (batch_in batch).grids)

  -- what it takes is there: a represented build takes values, and small-value rounds have the problem's batch
  abbrev pub IsReady : Ops → Problem → Way F EF f q x a e r → Type 0
  IsReady o p ways.Plain = Unit {0}
  IsReady o p ways.Represented = p.basis ≡ evaluation
  IsReady o p (ways.SmallValue batch) = IsBatchOf o p (batch_in batch)

  -- it is that of the build that a job asks for, and takes nothing but, where it is a represented one, values
  abbrev pub IsSimpleWay : Job F EF f q x a e r → Way F EF f q x a e r → Type 0
  IsSimpleWay job ways.Plain = job.mode ≡ Build Plain
  IsSimpleWay job ways.Represented = (job.mode ≡ Build Represented) × ((problem_in job).basis ≡ evaluation)
  IsSimpleWay job (ways.SmallValue batch) = ⊥

-- ---- its rounds

-- what stays while rounds are played, and where they begin
pub record Begun : Type 0 where
  pub setting : Setting
  pub start : ProverState

module _ {C F EG S P : Type 0} {c : ChallengerOf C F} {f : FieldOf F} {q : PartialEqOf F} {r : RoundShapeOf S} where
  -- what stays while a problem's rounds are played in a transcript
  abbrev pub setting_for : Extension → Ops → Problem → Transcript C F EG S P c f q r → Setting
  setting_for E o p t = setting_over E o (prover_for o p) t

  -- where they begin there, with data
  abbrev pub begun_for : (EG → ℕ) → Ops → Problem → Transcript C F EG S P c f q r → SumcheckData F EG → ProverState
  begun_for number o p t d = prover_state_over number (prover_for o p) t d

  -- both
  abbrev pub play_for : Extension → (EG → ℕ) → Ops → Problem → Transcript C F EG S P c f q r → SumcheckData F EG → Begun
  play_for E number o p t d = record { setting = setting_for E o p t; start = begun_for number o p t d }

-- where rounds stand that have drawn rs, at a verifier state and with so much on the wire: the tables have rs bound
abbrev pub with_drawn : Setting → ProverState → List ℕ → VerifierState → Wire → ProverState
with_drawn s t rs at wire = record {
  variables = t.variables - length rs;
  evals = entries_of (t.variables - length rs) (folded_by s.basis s.order s.ops rs (t.variables - length rs) (rows_of t.evals));
  weights = entries_of (t.variables - length rs) (folded_by s.basis s.order s.ops rs (t.variables - length rs) (rows_of t.weights));
  claim = at.claim;
  history = at.history;
  wire = wire;
}

-- So many rounds of a driver were played, as many challenges are drawn, and there is room for those of all rounds.
pub record HasPlayed {X K : Type 0} (rounds : ℕ) (d : Driver K) (drawn : List X) (room : ℕ) : Type 0 where
  pub played : d.played ≡ rounds
  pub count : length drawn ≡ rounds
  pub fits : d.shape.num_rounds ≤ room

-- what rounds leave whose tables are never in memory, by their result: they were played with the challenges rs and leave a claim, or they stop
abbrev pub LeavesDrawn : {X K : Type 0} → Begun → List ℕ → ℕ → Driver K → Wire → Result X SumcheckError → Type 0
LeavesDrawn b rs claim d wire (Ok x) =
    IsPlayed b.setting b.start (with_drawn b.setting b.start rs (record { history = d.history; claim = claim }) wire) rs
LeavesDrawn b rs claim d wire (Err e) = StopsFrom b.setting b.start d wire e

-- what all rounds of a driver leave, by their result: they were played with the challenges rs, and stand where it says, or they stop
abbrev pub LeavesPlayed : {X K : Type 0} → Begun → (X → ProverState) → List ℕ → Driver K → Wire → Result X SumcheckError → Type 0
LeavesPlayed b after rs d wire (Ok x) = PlaysFrom b.setting b.start (after x) rs d
LeavesPlayed b after rs d wire (Err e) = StopsFrom b.setting b.start d wire e

-- ---- all rounds

module _ {F EF : Type 0} {f : FieldOf F} {p : PartialEqOf F} {x : ExtensionOf EF F} {a : AlgebraOf EF F} {e : FieldOf EF} {q : PartialEqOf EF} where
  -- the rounds of a job, where so much is on the wire, a challenger answers by these rules and has this history
  abbrev pub rounds_for : Job F EF f p x a e q → Wire → Party → Batch
  rounds_for job on party =
      batch_at (setting_at (channel_by party x.extension f.ops.size job.pow_bits) e.ops (prover_for e.ops (problem_in job))) (prover_state_at (prover_for e.ops (problem_in job)) party.history on)
      x.DEGREE (constraint_arity job.constraint)

-- what they leave, by their result: they were played whole, with these challenges, and stand where it says, or they break off
abbrev pub LeavesRounds : {X : Type 0} → Batch → (X → ProverState) → (X → List ℕ) → List Event → Wire → Result X SumcheckError → Type 0
LeavesRounds b after challenges h wire (Ok x) = PlaysWhole b (after x) (challenges x)
LeavesRounds b after challenges h wire (Err e) = BreaksOffAt b h wire e
