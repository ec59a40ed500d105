-- What a job of `matmul` is answered.
use Rattle.std.specs.Prelude.{ℕ, List, [], ◌∷◌, ◌++◌, length, map, Option, Some, None, Result, Ok, Err}
use Rattle.std.specs.List.{concat}
use Rattle.sc_definitions.specs.declared.events.Event.{Event}
use Rattle.sc_definitions.specs.Events.{Rules}
use Rattle.sc_definitions.specs.Channels.{Wire, channel}
use Rattle.sc_audit_errors.specs.Findings.{Finding, holds, refuted, lucky}
use Rattle.sc_merge_definitions.specs.Matrices.{Matrix, MatmulCase, MatmulFigures}
use Rattle.sc_matmul.specs.declared.error.MatmulError.{MatmulError}
use Rattle.sc_matmul.specs.declared.error.MatmulError.TheVariants.{Side, Inner, Outer, Difficulty, FalseEntry, RoundCountMismatch, PowWitnessCountMismatch, InvalidPowWitness, NoWitness, NoMemory}
use Rattle.sc_matmul.specs.MatmulReports.{matmul_result}
use Rattle.sumcheck_audit.specs.declared.job.Proof.{Proof}
use Rattle.sumcheck_audit.specs.Report.{values_of}
use Rattle.sumcheck_members.specs.declared.mode.BuildOrCheck.{BuildOrCheck}
use Rattle.sumcheck_members.specs.declared.mode.BuildOrCheck.TheVariants.{Build, Check}
use Rattle.sumcheck_matmul.specs.declared.job.MatmulJob.{MatmulJob}
use Rattle.sumcheck_matmul.specs.MatmulJob.{MatmulJobFits}
use Rattle.sumcheck_matmul.specs.MatmulLines.{point_line, left_line, right_line, matmul_luck_line, side_text, inner_text, outer_text, false_entry_text}
use Rattle.sumcheck_replies.specs.declared.reply.Outcome.TheVariants.{Holds, Refuted, Lucky}
use Rattle.sumcheck_replies.specs.Reply.{Reply, no_witness, proof_refused, refused}
use Rattle.sumcheck_replies.specs.Lines.{claim_line, round_lines, residual_line, holds_line, refuted_line, difficulty_text, rounds_text, witnesses_text, witness_text}
use Rattle.sumcheck_replies.specs.Fields.{Fields, fields_of, rules_by}
use Rattle.sumcheck_replies.specs.Over.{Asks}

-- ---- what it asks

-- how many entries the first row has
abbrev pub width_of : List (List ℕ) → ℕ
width_of [] = 0
width_of (row ∷ rows) = length row

-- the matrix with these rows
abbrev pub matrix_given : List (List ℕ) → Matrix
matrix_given rows = record { rows = length rows; cols = width_of rows; values = concat rows }

-- a proof by its numbers, as it came on the wire
abbrev pub wire_given : Proof → Wire
wire_given p = record { messages = map values_of p.rounds; witnesses = p.witnesses }

-- what came to be checked, if anything did
abbrev pub came_given : BuildOrCheck Proof → Option Wire
came_given Build = None
came_given (Check proof) = Some (wire_given proof)

-- what a job asks, over these fields, of a challenger that answers by these rules and has this history
abbrev pub case_under : Fields → MatmulJob → Rules → List Event → MatmulCase
case_under k job R h = record {
  base = k.base;
  ops = k.ops;
  embedding = k.embedding;
  channel = channel R k.extension k.base.size job.bits;
  left = matrix_given job.left;
  right = matrix_given job.right;
  claimed = matrix_given job.claimed;
  history = h;
}

-- what the job's challenger answers
abbrev pub matmul_rules : MatmulJob → Rules
matmul_rules job = rules_by (fields_of job.field).base.size job.challenger

-- what it asks of its own challenger, over the fields that it names
abbrev pub own_case : MatmulJob → MatmulCase
own_case job = case_under (fields_of job.field) job (matmul_rules job) []

-- ---- the reply

-- the lines of a report up to the verdict
unfoldable pub matmul_lines : MatmulFigures → List ℕ
matmul_lines f =
    point_line f.point ++ claim_line f.claim ++ round_lines 0 f.messages f.witnesses f.challenges ++ residual_line f.residual ++ left_line f.left ++ right_line f.right

-- the lines of a report with what the rounds say of the entries
abbrev pub matmul_finding_reply : Finding → List ℕ → Reply
matmul_finding_reply holds lines = record { outcome = Holds; text = lines ++ holds_line }
matmul_finding_reply refuted lines = record { outcome = Refuted; text = lines ++ refuted_line }
matmul_finding_reply (lucky l) lines = record { outcome = Lucky; text = lines ++ matmul_luck_line l }

-- what is replied to the figures of a report
abbrev pub figures_reply : MatmulFigures → Reply
figures_reply f = matmul_finding_reply f.finding (matmul_lines f)

-- To a refusal. Want of memory is a status of its own, and has no text.
abbrev pub matmul_refusal : MatmulError → Reply
matmul_refusal (Side which rows cols) = refused (side_text which rows cols)
matmul_refusal (Inner left right) = refused (inner_text left right)
matmul_refusal (Outer rows cols) = refused (outer_text rows cols)
matmul_refusal (Difficulty bits bound) = refused (difficulty_text bits bound)
matmul_refusal (FalseEntry row col claimed actual) = refused (false_entry_text row col claimed actual)
matmul_refusal (RoundCountMismatch expected actual) = proof_refused (rounds_text expected actual)
matmul_refusal (PowWitnessCountMismatch expected actual) = proof_refused (witnesses_text expected actual)
matmul_refusal (InvalidPowWitness round bits) = proof_refused (witness_text round bits)
matmul_refusal (NoWitness round) = no_witness round
matmul_refusal NoMemory = refused []

-- to an answer
abbrev pub matmul_result_reply : Result MatmulFigures MatmulError → Reply
matmul_result_reply (Ok f) = figures_reply f
matmul_result_reply (Err e) = matmul_refusal e

-- what a job is answered over these fields by a challenger that answers by these rules and has this history
unfoldable pub matmul_judged : Fields → MatmulJob → Rules → List Event → Reply
matmul_judged k job R h = matmul_result_reply (matmul_result (case_under k job R h) (came_given job.mode))

-- what jobs ask that name their field and their challenger
abbrev pub matmul_asks : Asks MatmulJob
matmul_asks = record { field = λ job. job.field; challenger = λ job. job.challenger; fits = MatmulJobFits; replies = matmul_judged }

-- what a job is answered, over the fields that it names and under its own challenger
abbrev pub matmul_answer : MatmulJob → Reply
matmul_answer job = matmul_judged (fields_of job.field) job (matmul_rules job) []
