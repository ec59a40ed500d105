-- What is replied to a refusal, and to lines with what the rounds say of the statements.
use Rattle.std.specs.Prelude.{ℕ, List, [], ◌++◌}
use Rattle.sc_audit_errors.specs.declared.error.AuditError.{AuditError}
use Rattle.sc_audit_errors.specs.declared.error.AuditError.TheVariants.{JobShape, StrategyUnfit, FalseClaim, MissingSumcheckData, RoundCountMismatch, PowWitnessCountMismatch, InvalidPowWitness, NoWitness, NoMemory}
use Rattle.sc_audit_errors.specs.Findings.{Finding, holds, refuted, lucky}
use Rattle.sumcheck_replies.specs.declared.reply.Outcome.TheVariants.{Holds, Refuted, Lucky}
use Rattle.sumcheck_replies.specs.Reply.{Reply, no_witness, proof_refused, refused}
use Rattle.sumcheck_replies.specs.Lines.{holds_line, refuted_line, luck_line, shape_fault_text, fit_fault_text, false_claim_text, missing_text, rounds_text, witnesses_text, witness_text}

-- A refusal. Want of memory is a status of its own, and has no text.
abbrev pub refusal_reply : AuditError → Reply
refusal_reply (JobShape fault) = refused (shape_fault_text fault)
refusal_reply (StrategyUnfit fault) = refused (fit_fault_text fault)
refusal_reply (FalseClaim statement claimed actual) = refused (false_claim_text statement claimed actual)
refusal_reply (MissingSumcheckData rounds) = proof_refused (missing_text rounds)
refusal_reply (RoundCountMismatch expected actual) = proof_refused (rounds_text expected actual)
refusal_reply (PowWitnessCountMismatch expected actual) = proof_refused (witnesses_text expected actual)
refusal_reply (InvalidPowWitness round bits) = proof_refused (witness_text round bits)
refusal_reply (NoWitness round) = no_witness round
refusal_reply NoMemory = refused []

-- a report's lines with what the rounds say of the statements
abbrev pub finding_reply : Finding → List ℕ → Reply
finding_reply holds lines = record { outcome = Holds; text = lines ++ holds_line }
finding_reply refuted lines = record { outcome = Refuted; text = lines ++ refuted_line }
finding_reply (lucky l) lines = record { outcome = Lucky; text = lines ++ luck_line l }
