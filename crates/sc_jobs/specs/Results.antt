-- What is answered, as one function of what is asked.
use Rattle.std.specs.Prelude.{◌≡◌, ◌⊎◌, ℕ, List, [], Option, Some, None, Result, Ok, Err}
use Rattle.sc_definitions.specs.declared.events.Event.{Event}
use Rattle.sc_definitions.specs.Events.{Rules, Extension}
use Rattle.sc_definitions.specs.Transcript.{Round}
use Rattle.sc_definitions.specs.Replays.{given_rounds}
use Rattle.sc_definitions.specs.Problem.{honest_of}
use Rattle.sc_definitions.specs.Witnesses.{honest_rounds, first_failing}
use Rattle.sc_audit_errors.specs.declared.error.AuditError.{AuditError}
use Rattle.sc_audit_errors.specs.declared.error.AuditError.TheVariants.{InvalidPowWitness, NoWitness, NoMemory}
use Rattle.sc_jobs.specs.declared.report.Report.{Report}
use Rattle.sc_jobs.specs.Cases.{Task, build, check, Asked, start_of}
use Rattle.sc_jobs.specs.Refusals.{refusal_of}
use Rattle.sc_jobs.specs.Figures.{Reported, report_in}
use Rattle.sc_jobs.specs.Audits.{figures_from, grids_for}

-- ---- the rounds

-- rounds that are built, or the refusal of the one for which no witness is found
abbrev pub or_no_witness : Result (List Round) ℕ → Result (List Round) AuditError
or_no_witness (Ok rounds) = Ok rounds
or_no_witness (Err i) = Err (NoWitness i)

-- the rounds of a proof, or the refusal of the one whose witness fails
abbrev pub unless_failing : Option ℕ → ℕ → List Round → Result (List Round) AuditError
unless_failing None bits rounds = Ok rounds
unless_failing (Some i) bits rounds = Err (InvalidPowWitness i bits)

-- a proof's rounds that are played from h on, unless the witness of one fails
abbrev pub passing_rounds : Rules → Extension → ℕ → List Event → List Round → Result (List Round) AuditError
passing_rounds R E bits h rounds = unless_failing (first_failing R E bits h rounds) bits rounds

-- The rounds of what is asked: those that an honest prover builds, or those of the proof; or why they cannot be played.
abbrev pub rounds_of : Asked → Task → Result (List Round) AuditError
rounds_of q (build strategy) =
    or_no_witness (honest_rounds (honest_of q.ops q.case.problem) q.channel (start_of q).history [] q.case.problem.variables)
rounds_of q (check None) = Ok []
rounds_of q (check (Some given)) =
    passing_rounds q.channel.rules q.channel.extension q.channel.bits (start_of q).history (given_rounds given.messages given.witnesses)

-- ---- the answer

-- the report on rounds of what is asked: what they and their challenges determine, and the grids of what is done
abbrev pub report_from : Asked → List Round → Reported
report_from q rounds = record { figures = figures_from q rounds; grids = grids_for q }

-- the same of rounds that can be played, or why they cannot
abbrev pub report_of : Asked → Result (List Round) AuditError → Result Reported AuditError
report_of q (Ok rounds) = Ok (report_from q rounds)
report_of q (Err e) = Err e

-- what comes of the rounds, unless there is a refusal before
abbrev pub if_unrefused : Option AuditError → Result Reported AuditError → Result Reported AuditError
if_unrefused (Some e) rest = Err e
if_unrefused None rest = rest

-- The answer: the first refusal before a round is played, or else the report on the rounds, or why they cannot be played.
unfoldable pub answer_to : Asked → Result Reported AuditError
answer_to q = if_unrefused (refusal_of q) (report_of q (rounds_of q q.case.task))

-- A result is this answer, or want of memory.
abbrev pub GivesAnswer : {F EF : Type 0} → (F → ℕ) → (EF → ℕ) → Result Reported AuditError → Result (Report F EF) AuditError → Type 0
GivesAnswer base number answer (Ok r) = answer ≡ Ok (report_in base number r)
GivesAnswer base number answer (Err e) = (e ≡ NoMemory) ⊎ (answer ≡ Err e)
