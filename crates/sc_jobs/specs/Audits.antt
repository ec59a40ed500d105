-- What is answered, and what the answer leaves of the challenger's history.
use Rattle.std.specs.Prelude.{◌≡◌, ◌⊎◌, ◌<◌, ℕ, suc, ◌+◌, List, [], ◌++◌, length, take, All, Option, Some, None, Result, Ok, Err, IfOk, IfErr}
use Rattle.sc_definitions.specs.declared.events.Event.{Event}
use Rattle.sc_definitions.specs.Rounds.{next_claim}
use Rattle.sc_definitions.specs.Transcript.{Round, messages_of, rounds_events, challenges}
use Rattle.sc_definitions.specs.Replays.{AllPass, given_rounds}
use Rattle.sc_definitions.specs.Channels.{verifier_state, FailsAt, NoWitnessFound, witnesses_of, IsBuilt}
use Rattle.sc_definitions.specs.Problem.{honest_of, weights_of}
use Rattle.sc_definitions.specs.Grids.{grids_of}
use Rattle.sc_table.specs.declared.strategy.Strategy.TheVariants.{SmallValue}
use Rattle.sc_transcript.specs.declared.error.SumcheckError.{SumcheckError}
use Rattle.sc_transcript.specs.declared.error.SumcheckError.TheVariants as replay
use Rattle.sc_jobs.specs.declared.report.Report.{Report}
use Rattle.sc_audit_errors.specs.declared.error.AuditError.{AuditError}
use Rattle.sc_audit_errors.specs.declared.error.AuditError.TheVariants.{RoundCountMismatch, PowWitnessCountMismatch, InvalidPowWitness, NoWitness, NoMemory}
use Rattle.sc_jobs.specs.Cases.{Given, Task, build, check, Asked, start_of}
use Rattle.sc_jobs.specs.Refusals.{refusal_of, task_refusal}
use Rattle.sc_audit_errors.specs.Findings.{holds}
use Rattle.sc_jobs.specs.Figures.{Figures, Reported, figures_of, report_in}
use Rattle.sc_jobs.specs.Certified.{CertifiesLuck}

-- The rounds that are played: those that are built, of which each sends what an honest prover sends, with the first witness that passes; or those of the
-- proof. No proof has no rounds.
abbrev pub AreRounds : Asked → Task → List Round → Type 0
AreRounds q (build strategy) rounds =
    IsBuilt (honest_of q.ops q.case.problem) q.channel (start_of q).history [] q.case.problem.variables rounds
AreRounds q (check None) rounds = rounds ≡ []
AreRounds q (check (Some given)) rounds = rounds ≡ given_rounds given.messages given.witnesses

-- what rounds and their challenges determine
abbrev pub figures_from : Asked → List Round → Figures
figures_from q rounds =
    figures_of q.ops q.case.problem (messages_of rounds) (witnesses_of q.channel.bits rounds)
    (challenges q.channel.rules q.channel.extension q.channel.bits (start_of q).history rounds)

-- Its rounds were played whole: one for each variable, each witness passes, and h' is the old history with their transcript. These are the figures of
-- the rounds and of their challenges.
pub record IsPlayed (q : Asked) (figures : Figures) (h' : List Event) : Type 0 where
  pub rounds : List Round
  pub are : AreRounds q q.case.task rounds
  pub count : length rounds ≡ q.case.problem.variables
  pub passes : AllPass q.channel.rules q.channel.extension q.channel.bits (start_of q).history rounds
  pub history : h' ≡ (start_of q).history ++ rounds_events q.channel.extension q.channel.bits rounds
  pub is : figures ≡ figures_from q rounds

-- the grids of the first rounds that are built from small values, of the table and of the batched weights; none of what else is done
abbrev pub grids_by : Asked → Task → List (List ℕ × List ℕ)
grids_by q (build (SmallValue variables)) =
    grids_of q.case.problem.order q.ops q.case.problem.variables q.case.problem.table (weights_of q.ops q.case.problem) variables
grids_by q task = []

abbrev pub grids_for : Asked → List (List ℕ × List ℕ)
grids_for q = grids_by q q.case.task

-- a report: the figures of its rounds, and the grids of what is done
pub record IsAudited (q : Asked) (report : Reported) (h' : List Event) : Type 0 where
  pub played : IsPlayed q report.figures h'
  pub grids : report.grids ≡ grids_for q

-- round i is the first of a proof whose witness fails, and the history ends with its test
pub record ProofFails (q : Asked) (given : Given) (i : ℕ) (h' : List Event) : Type 0 where
  pub claim : ℕ
  pub at : FailsAt (next_claim q.case.problem.basis q.ops) q.channel (start_of q) (verifier_state h' claim) (given_rounds given.messages given.witnesses) i

-- the same, of what is done
abbrev pub WitnessFails : Asked → Task → ℕ → List Event → Type 0
WitnessFails q (build strategy) i h' = ⊥
WitnessFails q (check None) i h' = ⊥
WitnessFails q (check (Some given)) i h' = ProofFails q given i h'

-- A play was broken off: some of its rounds were played whole, from the first on, or all of them, and the history ends there.
pub record IsBrokenOff (q : Asked) (h' : List Event) : Type 0 where
  pub rounds : List Round
  pub are : AreRounds q q.case.task rounds
  pub count : length rounds ≡ q.case.problem.variables
  pub played : ℕ
  pub passes : AllPass q.channel.rules q.channel.extension q.channel.bits (start_of q).history (take played rounds)
  pub history : h' ≡ (start_of q).history ++ rounds_events q.channel.extension q.channel.bits (take played rounds)

-- Rounds that are built stop at round i: no witness is found for what an honest prover sends. The witnesses of the rounds before are numbers of elements
-- of the base field.
pub record BuildStops (q : Asked) (i : ℕ) : Type 0 where
  pub rounds : List Round
  pub built : AreRounds q q.case.task rounds
  pub count : length rounds ≡ i
  pub low : All (λ w. w < q.channel.base_size) (witnesses_of q.channel.bits rounds)
  pub left : ℕ
  pub some : i + suc left ≡ q.case.problem.variables
  pub end : List Event
  pub none : NoWitnessFound q.channel ((start_of q).history ++ rounds_events q.channel.extension q.channel.bits rounds)
      (honest_of q.ops q.case.problem (challenges q.channel.rules q.channel.extension q.channel.bits (start_of q).history rounds) left) end

-- the same, of what is done
abbrev pub FindsNoWitness : Asked → Task → ℕ → Type 0
FindsNoWitness q (build strategy) i = BuildStops q i
FindsNoWitness q (check proof) i = ⊥

-- The answer e has its cause, and leaves h'. `first` is the refusal before a round is played, if there is one; it leaves the history as it was.
abbrev pub IsCaused : Option AuditError → Asked → List Event → AuditError → Type 0
IsCaused first q h' (InvalidPowWitness i bits) = (bits ≡ q.channel.bits) × WitnessFails q q.case.task i h'
IsCaused first q h' (NoWitness i) = FindsNoWitness q q.case.task i × (h' ≡ q.history)
IsCaused first q h' NoMemory = (h' ≡ q.history) ⊎ IsBrokenOff q h'
IsCaused first q h' e = (first ≡ Some e) × (h' ≡ q.history)

-- what is answered: a report, or why there is none, where this is the refusal before a round, if there is one
abbrev pub Answers : {F EF : Type 0} → (F → ℕ) → (EF → ℕ) → Option AuditError → Asked → Result (Report F EF) AuditError → List Event → Type 0
Answers base number first q (Ok r) h' = IsAudited q (report_in base number r) h'
Answers base number first q (Err e) h' = IsCaused first q h' e

-- a refusal, if there is one, is answered, want of memory aside
abbrev pub IsRefusedBy : {T : Type 0} → Option AuditError → Result T AuditError → Type 0
IsRefusedBy None result = Unit {0}
IsRefusedBy (Some e) result = (result ≡ Err e) ⊎ (result ≡ Err NoMemory)

-- both, where the shape fits, so that what is done alone can be refused before a round
pub record AnswersTask {F EF : Type 0} (base : F → ℕ) (number : EF → ℕ) (q : Asked) (result : Result (Report F EF) AuditError) (h' : List Event) : Type 0 where
  pub answers : Answers base number (task_refusal q) q result h'
  pub refused : IsRefusedBy (task_refusal q) result

-- the verdict on a build is that the statements hold
abbrev pub HoldsIfBuilt : Task → Figures → Type 0
HoldsIfBuilt (build strategy) figures = figures.finding ≡ holds
HoldsIfBuilt (check proof) figures = Unit {0}

-- the witnesses of a proof pass
abbrev pub PassesAll : Asked → Task → Type 0
PassesAll q (build strategy) = Unit {0}
PassesAll q (check None) = Unit {0}
PassesAll q (check (Some given)) =
    AllPass q.channel.rules q.channel.extension q.channel.bits (start_of q).history (given_rounds given.messages given.witnesses)

-- it is valid: nothing refuses it before a round, and the witnesses of its proof pass
pub record IsValid (q : Asked) : Type 0 where
  pub fits : refusal_of q ≡ None
  pub passes : PassesAll q q.case.task

-- what can keep a valid case from its report: want of memory; a round of a build without a witness
abbrev pub MayStopValid : AuditError → Type 0
MayStopValid (NoWitness i) = Unit {0}
MayStopValid NoMemory = Unit {0}
MayStopValid e = ⊥

-- all that is said of what an audit answers
pub record IsAnswer {F EF : Type 0} (base : F → ℕ) (number : EF → ℕ) (q : Asked) (result : Result (Report F EF) AuditError) (h' : List Event) : Type 0 where
  pub answers : Answers base number (refusal_of q) q result h'
  pub holds : IfOk result (λ r. HoldsIfBuilt q.case.task (report_in base number r).figures)
  pub certified : IfOk result (λ r. CertifiesLuck q.ops q.case.problem (report_in base number r).figures)
  pub refused : IsRefusedBy (refusal_of q) result
  pub answered : IsValid q → IfErr result MayStopValid

-- what the replay's or the prover's refusal is answered as; neither refuses more than these, want of memory aside
abbrev pub refusal_by : SumcheckError → AuditError
refusal_by (replay.RoundCountMismatch expected actual) = RoundCountMismatch expected actual
refusal_by (replay.PowWitnessCountMismatch expected actual) = PowWitnessCountMismatch expected actual
refusal_by (replay.InvalidPowWitness round difficulty) = InvalidPowWitness round difficulty
refusal_by (replay.NoWitness round) = NoWitness round
refusal_by error = NoMemory
