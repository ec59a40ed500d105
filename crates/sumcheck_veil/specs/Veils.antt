-- What a job of `veil` is answered.
use Rattle.std.specs.Prelude.{◌≡◌, ℕ, List, [], ◌++◌, length, Result, Ok, Err}
use Rattle.sc_definitions.specs.declared.events.Event.{Event}
use Rattle.sc_definitions.specs.Tables.{evaluation, rows_of}
use Rattle.sc_definitions.specs.Events.{Rules}
use Rattle.sc_definitions.specs.Channels.{channel}
use Rattle.sc_definitions.specs.Problem.{Problem}
use Rattle.sc_table.specs.Strategy.{order_of}
use Rattle.sc_challenger.specs.Parties.{Party}
use Rattle.sc_zk_rounds.specs.Handoffs.{AskedMasks}
use Rattle.sc_zk_audit.specs.declared.error.MaskedError.{MaskedError}
use Rattle.sc_zk_audit.specs.declared.error.MaskedError.TheVariants.{JobShape, Rounds, EvenCharacteristic, MaskTooShort, NoRounds, FalseClaim, NoWitness, NoMemory}
use Rattle.sc_zk_audit.specs.MaskedCases.{MaskedAsked}
use Rattle.sc_zk_audit.specs.MaskedReports.{MaskedReported, masked_answer}
use Rattle.sumcheck_members.specs.Statements.{all_claims}
use Rattle.sumcheck_replies.specs.declared.reply.Outcome.TheVariants.{Holds}
use Rattle.sumcheck_replies.specs.Fields.{Fields, fields_of, rules_by}
use Rattle.sumcheck_replies.specs.Lines.{claim_line, round_lines, residual_line, holds_line, shape_fault_text, false_claim_text}
use Rattle.sumcheck_replies.specs.Over.{Asks}
use Rattle.sumcheck_replies.specs.Reply.{Reply, no_witness, refused}
use Rattle.sumcheck_veil.specs.declared.job.Veil.{Veil}
use Rattle.sumcheck_veil.specs.declared.job.VeilJob.{VeilJob}
use Rattle.sumcheck_veil.specs.VeilJob.{VeilJobFits}
use Rattle.sumcheck_veil.specs.VeilMasks.{mask_length, veils_of, sealed_masks}
use Rattle.sumcheck_veil.specs.VeilLines.{mu_line, eps_line, scaled_line, carried_line, mask_residual_line, rounds_bound_text, even_text, short_text, no_rounds_text}

-- ---- what it asks

-- the job's problem: a table of values, with its statements batched from the power 0 on
abbrev pub veil_problem : (ℕ → ℕ) → VeilJob → Problem
veil_problem embedding job = record {
  basis = evaluation;
  order = order_of job.stated.order;
  variables = job.stated.variables;
  table = λ b. embedding (rows_of job.stated.table b);
  statements = all_claims embedding job.stated.groups;
  batching = job.stated.batching;
  initial = 0;
}

-- the masks that a job's rounds are played under, over these fields
abbrev pub veil_masks : Fields → Veil → AskedMasks
veil_masks k v = sealed_masks k.ops (mask_length v.masks) (veils_of k.ops.size v.rounds v.masks) v.aux

-- what a job asks, over these fields, of a challenger that answers by these rules and has this history
abbrev pub asked_under : Fields → VeilJob → Rules → List Event → MaskedAsked
asked_under k job R h = record {
  rows = length job.stated.table;
  problem = veil_problem k.embedding job;
  masks = veil_masks k job.veil;
  ops = k.ops;
  channel = channel R k.extension k.base.size job.stated.bits;
  history = h;
}

-- what the job's challenger answers
abbrev pub veil_rules : VeilJob → Rules
veil_rules job = rules_by (fields_of job.stated.field).base.size job.stated.challenger

-- what it asks of its own challenger, over the fields that it names
abbrev pub own_veil : VeilJob → MaskedAsked
own_veil job = asked_under (fields_of job.stated.field) job (veil_rules job) []

-- of any challenger this asks what a job does over these fields
abbrev pub AsksAs : (Party → MaskedAsked) → Fields → VeilJob → Type 0
AsksAs asked k job = (party : Party) → asked party ≡ asked_under k job party.rules party.history

-- ---- the reply

-- the lines of a report up to the verdict
unfoldable pub veil_lines : MaskedReported → List ℕ
veil_lines r =
    claim_line r.claim ++ mu_line r.figures.mu ++ eps_line r.figures.eps
    ++ round_lines 0 r.figures.wire.messages r.figures.wire.witnesses r.figures.challenges ++ residual_line r.figures.residual
    ++ scaled_line r.figures.scaled ++ carried_line r.figures.carried ++ mask_residual_line r.figures.mask_residual

-- what is replied to a report: the statements are true, so it holds
abbrev pub shown_reply : MaskedReported → Reply
shown_reply r = record { outcome = Holds; text = veil_lines r ++ holds_line }

-- To a refusal. Want of memory is a status of its own, and has no text.
abbrev pub veil_refusal : MaskedError → Reply
veil_refusal (JobShape fault) = refused (shape_fault_text fault)
veil_refusal (Rounds rounds bound) = refused (rounds_bound_text rounds bound)
veil_refusal EvenCharacteristic = refused even_text
veil_refusal (MaskTooShort l) = refused (short_text l)
veil_refusal NoRounds = refused no_rounds_text
veil_refusal (FalseClaim statement claimed actual) = refused (false_claim_text statement claimed actual)
veil_refusal (NoWitness round) = no_witness round
veil_refusal NoMemory = refused []

-- to an answer
abbrev pub veil_reply : Result MaskedReported MaskedError → Reply
veil_reply (Ok r) = shown_reply r
veil_reply (Err e) = veil_refusal e

-- what a job is answered over these fields by a challenger that answers by these rules and has this history
unfoldable pub veil_judged : Fields → VeilJob → Rules → List Event → Reply
veil_judged k job R h = veil_reply (masked_answer (asked_under k job R h))

-- what jobs ask that name their field and their challenger
abbrev pub veil_asks : Asks VeilJob
veil_asks = record { field = λ job. job.stated.field; challenger = λ job. job.stated.challenger; fits = VeilJobFits; replies = veil_judged }

-- what a job is answered, over the fields that it names and under its own challenger
abbrev pub veil_answer : VeilJob → Reply
veil_answer job = veil_judged (fields_of job.stated.field) job (veil_rules job) []
