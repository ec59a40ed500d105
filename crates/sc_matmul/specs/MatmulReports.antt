-- What is answered: the figures of rounds and what they say of the claimed entries, or why there are none.
use Rattle.std.specs.Prelude.{◌≡◌, ◌⊎◌, ℕ, ◌/◌, ◌%◌, List, map, Option, Some, None, Result, Ok, Err}
use Rattle.sc_definitions.specs.Transcript.{Round}
use Rattle.sc_definitions.specs.Channels.{Wire}
use Rattle.sc_definitions.specs.Lucky.{in_batch, in_round}
use Rattle.sc_transcript.specs.Data.{messages_in, witnesses_in}
use Rattle.sc_audit_errors.specs.Findings.{Finding, holds, refuted, lucky}
use Rattle.sc_soundness.specs.Differences.{Difference}
use Rattle.sc_merge_definitions.specs.Matrices.{MatmulCase, MatmulFigures, matmul_figures, false_entry}
use Rattle.sc_matmul.specs.declared.error.MatmulError.{MatmulError}
use Rattle.sc_matmul.specs.declared.error.MatmulError.TheVariants.{FalseEntry, NoWitness, NoMemory}
use Rattle.sc_matmul.specs.declared.report.MatmulReport.{MatmulReport}
use Rattle.sc_matmul.specs.declared.report.MatmulVerdict.{MatmulVerdict}
use Rattle.sc_matmul.specs.declared.report.MatmulVerdict.TheVariants.{Holds, Refuted, LuckyPoint, LuckyRound}
use Rattle.sc_matmul.specs.Shapes.{early_fault}
use Rattle.sc_matmul.specs.MatmulRounds.{matmul_built, matmul_given, unless_fault}

-- ---- what is answered

-- to rounds that are handed in
abbrev pub given_result : MatmulCase → Result (List Round) MatmulError → Result MatmulFigures MatmulError
given_result q (Ok rounds) = Ok (matmul_figures q rounds)
given_result q (Err e) = Err e

-- to rounds that are built, or the round for which no witness is found
abbrev pub built_result : MatmulCase → Result (List Round) ℕ → Result MatmulFigures MatmulError
built_result q (Ok rounds) = Ok (matmul_figures q rounds)
built_result q (Err i) = Err (NoWitness i)

-- a false entry of a matrix with so many columns, as it is refused
abbrev pub entry_fault : ℕ → Option Difference → Option MatmulError
entry_fault cols None = None
entry_fault cols (Some d) = Some (FalseEntry (d.place / cols) (d.place % cols) d.claimed d.actual)

-- to what came, or to a build, where nothing did
abbrev pub task_result : MatmulCase → Option Wire → Result MatmulFigures MatmulError
task_result q None = unless_fault (entry_fault q.claimed.cols (false_entry q)) (built_result q (matmul_built q))
task_result q (Some w) = given_result q (matmul_given q w)

-- to what is asked: the report on the rounds that are asked for, or the first refusal
abbrev pub matmul_result : MatmulCase → Option Wire → Result MatmulFigures MatmulError
matmul_result q came = unless_fault (early_fault q) (task_result q came)

-- An answer is exactly this result, or want of memory.
abbrev pub GivesResult : Result MatmulFigures MatmulError → Result MatmulFigures MatmulError → Type 0
GivesResult due (Ok f) = due ≡ Ok f
GivesResult due (Err e) = (e ≡ NoMemory) ⊎ (due ≡ Err e)

-- ---- views

-- what a verdict says
abbrev pub finding_in : {EF : Type 0} → (EF → ℕ) → MatmulVerdict EF → Finding
finding_in number Holds = holds
finding_in number Refuted = refuted
finding_in number (LuckyPoint poly vanishing) = lucky (in_batch (map number poly) vanishing)
finding_in number (LuckyRound round poly vanishing) = lucky (in_round round (map number poly) vanishing)

-- what a report shows
abbrev pub figures_in : {F EF : Type 0} → (F → ℕ) → (EF → ℕ) → MatmulReport F EF → MatmulFigures
figures_in base number r = record {
  point = number r.point;
  claim = number r.claim;
  messages = messages_in number r.rounds;
  witnesses = witnesses_in base r.rounds;
  challenges = map number r.challenges;
  residual = number r.residual;
  left = number r.left;
  right = number r.right;
  finding = finding_in number r.verdict;
}

-- what a call answers
abbrev pub result_in : {F EF : Type 0} → (F → ℕ) → (EF → ℕ) → Result (MatmulReport F EF) MatmulError → Result MatmulFigures MatmulError
result_in base number (Ok r) = Ok (figures_in base number r)
result_in base number (Err e) = Err e
