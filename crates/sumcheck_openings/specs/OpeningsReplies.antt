-- What a job of `openings` is answered.
use Rattle.std.specs.Prelude.{ℕ, List, [], ◌++◌, codes, length, map, Option, Some, None, Result, Ok, Err}
use Rattle.sc_definitions.specs.declared.events.Event.{Event}
use Rattle.sc_definitions.specs.Events.{Rules}
use Rattle.sc_definitions.specs.Statements.{claims}
use Rattle.sc_definitions.specs.Channels.{Wire, channel}
use Rattle.sc_merge_definitions.specs.Openings.{TableClaim, claim_kind, OpeningsCase, OpeningsFigures}
use Rattle.sc_openings.specs.declared.error.MergeError.{MergeError}
use Rattle.sc_openings.specs.declared.error.MergeError.TheVariants.{TableLength, ClaimTable, ClaimArity, Difficulty, FalseClaim, OpeningCount, RoundCountMismatch, PowWitnessCountMismatch, InvalidPowWitness, NoWitness, NoMemory}
use Rattle.sc_openings.specs.OpeningsJobs.{OpeningsJob as AskedOpenings, CameOpenings, table_of_entries}
use Rattle.sc_openings.specs.OpeningsReports.{openings_result}
use Rattle.sumcheck_audit.specs.declared.job.Proof.{Proof}
use Rattle.sumcheck_audit.specs.Report.{values_of}
use Rattle.sumcheck_members.specs.declared.mode.BuildOrCheck.{BuildOrCheck}
use Rattle.sumcheck_members.specs.declared.mode.BuildOrCheck.TheVariants.{Build, Check}
use Rattle.sumcheck_openings.specs.declared.job.ClaimGiven.{ClaimGiven}
use Rattle.sumcheck_openings.specs.declared.job.ProofGiven.{ProofGiven}
use Rattle.sumcheck_openings.specs.declared.job.OpeningsJob.{OpeningsJob}
use Rattle.sumcheck_openings.specs.OpeningsJob.{OpeningsJobFits}
use Rattle.sumcheck_openings.specs.OpeningsLines.{numbered_lines, table_text, claim_table_text, claim_arity_text, opening_count_text}
use Rattle.sumcheck_replies.specs.Reply.{Reply, no_witness, proof_refused, refused}
use Rattle.sumcheck_replies.specs.Lines.{claim_line, round_lines, residual_line, difficulty_text, false_claim_text, rounds_text, witnesses_text, witness_text}
use Rattle.sumcheck_replies.specs.Refusals.{finding_reply}
use Rattle.sumcheck_replies.specs.Fields.{Fields, fields_of, rules_by}
use Rattle.sumcheck_replies.specs.Over.{Asks}

-- ---- what it asks

-- a claim by its numbers
abbrev pub claim_given : ClaimGiven → TableClaim
claim_given c = record { table = c.table; statement = claims (claim_kind c.successor c.point) c.value }

-- rounds by their numbers, as they came on the wire
abbrev pub wire_given : Proof → Wire
wire_given p = record { messages = map values_of p.rounds; witnesses = p.witnesses }

-- a proof by its numbers
abbrev pub proof_given : ProofGiven → CameOpenings
proof_given p = record { wire = wire_given p.rounds; openings = p.openings }

-- what came to be checked, if anything did
abbrev pub came_given : BuildOrCheck ProofGiven → Option CameOpenings
came_given Build = None
came_given (Check proof) = Some (proof_given proof)

-- the case that a job is, over these fields, of a challenger that answers by these rules and has this history
abbrev pub case_under : Fields → OpeningsJob → Rules → List Event → OpeningsCase
case_under k job R h = record {
  ops = k.ops;
  variables = job.variables;
  tables = map (table_of_entries k.embedding) job.tables;
  claims = map claim_given job.claims;
  channel = channel R k.extension k.base.size job.bits;
  history = h;
}

-- what a job asks: the case, of tables of these lengths
abbrev pub asked_under : Fields → OpeningsJob → Rules → List Event → AskedOpenings
asked_under k job R h = record { case = case_under k job R h; lengths = map length job.tables }

-- what the job's challenger answers
abbrev pub openings_rules : OpeningsJob → Rules
openings_rules job = rules_by (fields_of job.field).base.size job.challenger

-- what it asks of its own challenger, over the fields that it names
abbrev pub own_asked : OpeningsJob → AskedOpenings
own_asked job = asked_under (fields_of job.field) job (openings_rules job) []

-- ---- the reply

-- the lines of a report up to the verdict: after the residual a line for each table's opening, and then one for each table's weights at the challenges
unfoldable pub openings_lines : OpeningsFigures → List ℕ
openings_lines f =
    claim_line f.claim ++ round_lines 0 f.messages f.witnesses f.challenges ++ residual_line f.residual ++ numbered_lines (codes "open") 0 f.openings
    ++ numbered_lines (codes "weight") 0 f.weights

-- what is replied to the figures of a report
abbrev pub figures_reply : OpeningsFigures → Reply
figures_reply f = finding_reply f.finding (openings_lines f)

-- To a refusal. Want of memory is a status of its own, and has no text.
abbrev pub openings_refusal : MergeError → Reply
openings_refusal (TableLength table len) = refused (table_text table len)
openings_refusal (ClaimTable claim table) = refused (claim_table_text claim table)
openings_refusal (ClaimArity claim expected actual) = refused (claim_arity_text claim actual)
openings_refusal (Difficulty bits bound) = refused (difficulty_text bits bound)
openings_refusal (FalseClaim claim claimed actual) = refused (false_claim_text claim claimed actual)
openings_refusal (OpeningCount expected actual) = proof_refused (opening_count_text expected actual)
openings_refusal (RoundCountMismatch expected actual) = proof_refused (rounds_text expected actual)
openings_refusal (PowWitnessCountMismatch expected actual) = proof_refused (witnesses_text expected actual)
openings_refusal (InvalidPowWitness round bits) = proof_refused (witness_text round bits)
openings_refusal (NoWitness round) = no_witness round
openings_refusal NoMemory = refused []

-- to an answer
abbrev pub openings_result_reply : Result OpeningsFigures MergeError → Reply
openings_result_reply (Ok f) = figures_reply f
openings_result_reply (Err e) = openings_refusal e

-- what a job is answered over these fields by a challenger that answers by these rules and has this history
unfoldable pub openings_judged : Fields → OpeningsJob → Rules → List Event → Reply
openings_judged k job R h = openings_result_reply (openings_result (asked_under k job R h) (came_given job.mode))

-- what jobs ask that name their field and their challenger
abbrev pub openings_asks : Asks OpeningsJob
openings_asks = record { field = λ job. job.field; challenger = λ job. job.challenger; fits = OpeningsJobFits; replies = openings_judged }

-- what a job is answered, over the fields that it names and under its own challenger
abbrev pub openings_answer : OpeningsJob → Reply
openings_answer job = openings_judged (fields_of job.field) job (openings_rules job) []
