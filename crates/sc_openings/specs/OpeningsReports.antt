-- What is answered: the figures of rounds and openings and what they say of the claims, or why there are none.
use Rattle.std.specs.Prelude.{◌≡◌, ◌⊎◌, ℕ, List, map, Option, Some, None, Result, Ok, Err}
use Rattle.sc_definitions.specs.declared.false_claim.FalseClaim.{FalseClaim as FalseStatement}
use Rattle.sc_definitions.specs.Transcript.{Round}
use Rattle.sc_definitions.specs.Lucky.{in_batch, in_round}
use Rattle.sc_transcript.specs.Data.{messages_in, witnesses_in}
use Rattle.sc_audit_errors.specs.Findings.{Finding, holds, refuted, lucky}
use Rattle.sc_merge_definitions.specs.Openings.{OpeningsCase, first_false_table_claim, SentOpenings, OpeningsFigures, openings_figures}
use Rattle.sc_openings.specs.declared.error.MergeError.{MergeError}
use Rattle.sc_openings.specs.declared.error.MergeError.TheVariants.{FalseClaim, NoWitness, NoMemory}
use Rattle.sc_openings.specs.declared.report.MergeReport.{MergeReport}
use Rattle.sc_openings.specs.declared.report.MergeVerdict.{MergeVerdict}
use Rattle.sc_openings.specs.declared.report.MergeVerdict.TheVariants.{Holds, Refuted, LuckyBatch, LuckyRound}
use Rattle.sc_openings.specs.OpeningsJobs.{OpeningsJob, CameOpenings}
use Rattle.sc_openings.specs.Shapes.{early_fault}
use Rattle.sc_openings.specs.OpeningsRounds.{openings_built, with_openings, openings_given, unless_fault}

-- ---- what is answered

-- to rounds and openings that are handed in
abbrev pub given_result : OpeningsCase → Result SentOpenings MergeError → Result OpeningsFigures MergeError
given_result q (Ok sent) = Ok (openings_figures q sent)
given_result q (Err e) = Err e

-- to rounds that are built, or the round for which no witness is found
abbrev pub built_result : OpeningsCase → Result (List Round) ℕ → Result OpeningsFigures MergeError
built_result q (Ok rounds) = Ok (openings_figures q (with_openings q rounds))
built_result q (Err i) = Err (NoWitness i)

-- a false claim, as it is refused
abbrev pub claim_fault : Option FalseStatement → Option MergeError
claim_fault None = None
claim_fault (Some c) = Some (FalseClaim c.statement c.claimed c.actual)

-- to what came, or to a build, where nothing did
abbrev pub task_result : OpeningsCase → Option CameOpenings → Result OpeningsFigures MergeError
task_result q None = unless_fault (claim_fault (first_false_table_claim q 0 q.claims)) (built_result q (openings_built q))
task_result q (Some came) = given_result q (openings_given q came)

-- to what is asked: the report on the rounds and openings that are asked for, or the first refusal
abbrev pub openings_result : OpeningsJob → Option CameOpenings → Result OpeningsFigures MergeError
openings_result job came = unless_fault (early_fault job) (task_result job.case came)

-- An answer is exactly this result, or want of memory.
abbrev pub GivesResult : Result OpeningsFigures MergeError → Result OpeningsFigures MergeError → Type 0
GivesResult due (Ok f) = due ≡ Ok f
GivesResult due (Err e) = (e ≡ NoMemory) ⊎ (due ≡ Err e)

-- ---- views

-- what a verdict says
abbrev pub finding_in : {EF : Type 0} → (EF → ℕ) → MergeVerdict EF → Finding
finding_in number Holds = holds
finding_in number Refuted = refuted
finding_in number (LuckyBatch poly vanishing) = lucky (in_batch (map number poly) vanishing)
finding_in number (LuckyRound round poly vanishing) = lucky (in_round round (map number poly) vanishing)

-- what a report shows
abbrev pub figures_in : {F EF : Type 0} → (F → ℕ) → (EF → ℕ) → MergeReport F EF → OpeningsFigures
figures_in base number r = record {
  claim = number r.claim;
  messages = messages_in number r.proof.rounds;
  witnesses = witnesses_in base r.proof.rounds;
  openings = map number r.proof.openings.items;
  challenges = map number r.challenges;
  residual = number r.residual;
  weights = map number r.weights;
  finding = finding_in number r.verdict;
}

-- what a call answers
abbrev pub result_in : {F EF : Type 0} → (F → ℕ) → (EF → ℕ) → Result (MergeReport F EF) MergeError → Result OpeningsFigures MergeError
result_in base number (Ok r) = Ok (figures_in base number r)
result_in base number (Err e) = Err e
