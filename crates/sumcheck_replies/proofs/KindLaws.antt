-- Replies that are no usage, and promises that are kept.
use Rattle.std.proofs.Common.{◌≡◌, ◌<◌, ◌≤◌, ℕ, List, Bool, true, false, Option, Some, None, Result, Ok, Err, length, ap, ◌∙◌, rules}
use Rattle.std.proofs.lemmas.Bool.{cond-true, lt-ltb}
use Rattle.std.specs.Prelude.{if◌then◌else◌, nat_lt}
use Rattle.serde_json.specs.Data.{Data}
use Rattle.sc_forms.specs.Values.{value_of}
use Rattle.sc_audit_errors.specs.declared.error.AuditError.{AuditError}
use Rattle.sc_audit_errors.specs.declared.error.AuditError.TheVariants.{JobShape, StrategyUnfit, FalseClaim, MissingSumcheckData, RoundCountMismatch, PowWitnessCountMismatch, InvalidPowWitness, NoWitness, NoMemory}
use Rattle.sc_audit_errors.specs.Findings.{Finding, holds, refuted, lucky}
use Rattle.sumcheck_members.specs.Members.{Name}
use Rattle.sumcheck_replies.specs.Reply.{Reply, no_witness, no_witness_at, proof_refused, refused}
use Rattle.sumcheck_replies.specs.Refusals.{refusal_reply, finding_reply}
use Rattle.sumcheck_replies.specs.Kinds.{max_input, too_long, bad_json, value_reply, json_reply, Jobs, job_reply, jobs_reply, KeepsPromise, IsAnswer, AreLawful}

-- ---- single replies

pub refused-answer : (why : List ℕ) → IsAnswer (refused why)
unfolding refused
refused-answer why e = cc

pub proof_refused-answer : (why : List ℕ) → IsAnswer (proof_refused why)
unfolding proof_refused
proof_refused-answer why e = cc

pub no_witness_at-answer : (place : List ℕ) → IsAnswer (no_witness_at place)
unfolding no_witness_at
no_witness_at-answer place e = cc

pub no_witness-answer : (round : ℕ) → IsAnswer (no_witness round)
no_witness-answer round = no_witness_at-answer _

pub refusal-answer : (e : AuditError) → IsAnswer (refusal_reply e)
refusal-answer (JobShape fault) = refused-answer _
refusal-answer (StrategyUnfit fault) = refused-answer _
refusal-answer (FalseClaim statement claimed actual) = refused-answer _
refusal-answer (MissingSumcheckData rounds) = proof_refused-answer _
refusal-answer (RoundCountMismatch expected actual) = proof_refused-answer _
refusal-answer (PowWitnessCountMismatch expected actual) = proof_refused-answer _
refusal-answer (InvalidPowWitness round bits) = proof_refused-answer _
refusal-answer (NoWitness round) = no_witness-answer round
refusal-answer NoMemory = refused-answer _

pub finding-answer : (finding : Finding) (lines : List ℕ) → IsAnswer (finding_reply finding lines)
finding-answer holds lines = λ e. cc
finding-answer refuted lines = λ e. cc
finding-answer (lucky l) lines = λ e. cc

-- ---- replies to an input

within : (input : List ℕ) → length input ≤ max_input → nat_lt max_input (length input) ≡ false
within input short = search rules

-- an input past the limit, and one within it
pub long-reply : (reply : Data → Reply) (input : List ℕ) → max_input < length input → json_reply reply input ≡ too_long
long-reply reply input long = cond-true _ _ _ (lt-ltb _ _ long)

pub short-reply : (reply : Data → Reply) (input : List ℕ) → length input ≤ max_input → json_reply reply input ≡ value_reply reply (value_of input)
short-reply reply input short = ap (λ b. if b then too_long else value_reply reply (value_of input)) (within input short)

module _ (reply : Data → Reply) (answers : (d : Data) → IsAnswer (reply d)) where
  value-answer : (o : Option Data) → IsAnswer (value_reply reply o)
  unfolding bad_json
  value-answer None = refused-answer _
  value-answer (Some d) = answers d

  either : (b : Bool) (x y : Reply) → IsAnswer x → IsAnswer y → IsAnswer (if b then x else y)
  either true x y p q = p
  either false x y p q = q

  json-answer : (input : List ℕ) → IsAnswer (json_reply reply input)
  unfolding too_long
  json-answer input = either (nat_lt max_input (length input)) too_long (value_reply reply (value_of input)) (refused-answer _) (value-answer (value_of input))

-- ---- jobs of a kind

module _ {J : Type 0} (jobs : Jobs J) (lawful : AreLawful jobs) where
  job-answer : (r : Result J Name) → IsAnswer (job_reply jobs r)
  job-answer (Ok job) = lawful.answer job
  job-answer (Err m) = refused-answer _

  -- an input is never told usage
  pub jobs-answer : (input : List ℕ) → IsAnswer (json_reply (jobs_reply jobs) input)
  jobs-answer input = json-answer (jobs_reply jobs) (λ d. job-answer (jobs.describes d)) input

  -- what is promised is kept
  pub promise-kept : (input : List ℕ) → KeepsPromise jobs input
  promise-kept input d job short read is =
      (short-reply (jobs_reply jobs) input short ∙ ap (value_reply (jobs_reply jobs)) read ∙ ap (job_reply jobs) is, lawful.kept job (lawful.fit d job is))
