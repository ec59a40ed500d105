-- What a job of `product` is answered.
use Rattle.std.specs.Prelude.{◌≡◌, ℕ, List, [], ◌++◌, map, Result, Ok, Err}
use Rattle.sc_definitions.specs.declared.events.Event.{Event}
use Rattle.sc_definitions.specs.Events.{Rules}
use Rattle.sc_definitions.specs.Channels.{channel}
use Rattle.sc_challenger.specs.Parties.{Party}
use Rattle.sc_product_audit.specs.declared.error.ProductError.{ProductError}
use Rattle.sc_product_audit.specs.declared.error.ProductError.TheVariants.{TableLength, TableCount, Difficulty, RoundCountMismatch, PowWitnessCountMismatch, PolyEvalCountMismatch, InvalidPowWitness, NoWitness, NoMemory}
use Rattle.sc_product_audit.specs.ProductCases.{ProductGiven, ProductTask, to_build, to_check, ProductAsked}
use Rattle.sc_product_audit.specs.ProductReports.{ProductFigures, ProductReported, product_result}
use Rattle.sumcheck_members.specs.declared.mode.BuildOrCheck.{BuildOrCheck}
use Rattle.sumcheck_members.specs.declared.mode.BuildOrCheck.TheVariants.{Build, Check}
use Rattle.sumcheck_product.specs.declared.job.ProductProof.{ProductProof}
use Rattle.sumcheck_product.specs.declared.job.ProductJob.{ProductJob}
use Rattle.sumcheck_product.specs.ProductJob.{ProductJobFits}
use Rattle.sumcheck_replies.specs.Reply.{Reply, no_witness, proof_refused, refused}
use Rattle.sumcheck_replies.specs.Lines.{claim_line, round_lines, residual_line, product_line, table_length_text, table_count_text, difficulty_text, rounds_text, witnesses_text, width_text, witness_text}
use Rattle.sumcheck_replies.specs.Fields.{Fields, fields_of, rules_by}
use Rattle.sumcheck_replies.specs.Refusals.{finding_reply}
use Rattle.sumcheck_replies.specs.Over.{Asks}

-- ---- what it asks

-- a proof by its numbers
abbrev pub proof_given : ProductProof → ProductGiven
proof_given p = record { claimed = p.claimed; came = record { messages = p.rounds; witnesses = p.witnesses } }

-- what is done
abbrev pub task_given : BuildOrCheck ProductProof → ProductTask
task_given Build = to_build
task_given (Check proof) = to_check (proof_given proof)

-- What a job asks, over these fields, of a challenger that answers by these rules and has this history. Its tables are those of the images in the extension.
abbrev pub asked_under : Fields → ProductJob → Rules → List Event → ProductAsked
asked_under k job R h = record {
  ops = k.ops;
  tables = map (map k.embedding) job.tables;
  task = task_given job.mode;
  channel = channel R k.extension k.base.size job.bits;
  history = h;
}

-- what the job's challenger answers
abbrev pub product_rules : ProductJob → Rules
product_rules job = rules_by (fields_of job.field).base.size job.challenger

-- what it asks of its own challenger, over the fields that it names
abbrev pub own_product : ProductJob → ProductAsked
own_product job = asked_under (fields_of job.field) job (product_rules job) []

-- of any challenger this asks what a job does over these fields
abbrev pub AsksAs : (Party → ProductAsked) → Fields → ProductJob → Type 0
AsksAs asked k job = (party : Party) → asked party ≡ asked_under k job party.rules party.history

-- ---- the reply

-- the lines of a report up to the verdict
unfoldable pub product_lines : ProductFigures → List ℕ
product_lines f =
    claim_line f.claimed ++ round_lines 0 f.messages f.witnesses f.challenges ++ residual_line f.residual ++ product_line f.product

-- what is replied to a report
abbrev pub reported_reply : ProductReported → Reply
reported_reply r = finding_reply r.finding (product_lines r.figures)

-- To a refusal. Want of memory is a status of its own, and has no text.
abbrev pub product_refusal : ProductError → Reply
product_refusal (TableLength len) = refused (table_length_text len)
product_refusal (TableCount tables bound) = refused (table_count_text tables bound)
product_refusal (Difficulty bits bound) = refused (difficulty_text bits bound)
product_refusal (RoundCountMismatch expected actual) = proof_refused (rounds_text expected actual)
product_refusal (PowWitnessCountMismatch expected actual) = proof_refused (witnesses_text expected actual)
product_refusal (PolyEvalCountMismatch round expected actual) = proof_refused (width_text round expected actual)
product_refusal (InvalidPowWitness round bits) = proof_refused (witness_text round bits)
product_refusal (NoWitness round) = no_witness round
product_refusal NoMemory = refused []

-- to an answer
abbrev pub result_reply : Result ProductReported ProductError → Reply
result_reply (Ok r) = reported_reply r
result_reply (Err e) = product_refusal e

-- what a job is answered over these fields by a challenger that answers by these rules and has this history
unfoldable pub product_judged : Fields → ProductJob → Rules → List Event → Reply
product_judged k job R h = result_reply (product_result (asked_under k job R h))

-- what jobs ask that name their field and their challenger
abbrev pub product_asks : Asks ProductJob
product_asks = record { field = λ job. job.field; challenger = λ job. job.challenger; fits = ProductJobFits; replies = product_judged }

-- what a job is answered, over the fields that it names and under its own challenger
abbrev pub product_answer : ProductJob → Reply
product_answer job = product_judged (fields_of job.field) job (product_rules job) []
