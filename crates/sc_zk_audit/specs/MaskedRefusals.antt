-- What is refused before a round is played, in the order in which it is tested.
use Rattle.std.specs.Prelude.{ℕ, ◌==◌, length, nat_lt, if◌then◌else◌, Option, Some, None, Result, Ok, Err}
use Rattle.std.specs.Option.{option_map}
use Rattle.sc_definitions.specs.declared.false_claim.FalseClaim.{FalseClaim as FalseStatement}
use Rattle.sc_definitions.specs.Ring.{Ops, ◌+⟨◌⟩◌}
use Rattle.sc_definitions.specs.Problem.{Problem}
use Rattle.sc_constraints.specs.FalseClaims.{capped}
use Rattle.sc_audit_errors.specs.declared.error.AuditError.{AuditError}
use Rattle.sc_audit_errors.specs.declared.error.AuditError.TheVariants as audit
use Rattle.sc_audit_errors.specs.Arities.{arity_of}
use Rattle.sc_transcript.specs.declared.error.SumcheckError.{SumcheckError}
use Rattle.sc_transcript.specs.declared.error.SumcheckError.TheVariants as run
use Rattle.sc_jobs.specs.Figures.{false_claim_of}
use Rattle.sc_jobs.specs.Refusals.{shape_by}
use Rattle.sc_zk_audit.specs.declared.error.MaskedError.{MaskedError}
use Rattle.sc_zk_audit.specs.declared.error.MaskedError.TheVariants.{JobShape, Rounds, EvenCharacteristic, MaskTooShort, NoRounds, FalseClaim, NoWitness, NoMemory}
use Rattle.sc_zk_audit.specs.MaskedCases.{MaskedAsked}

-- the first refusal, or else the later one
abbrev pub or_else : Option MaskedError → Option MaskedError → Option MaskedError
or_else (Some e) later = Some e
or_else None later = later

-- what the shape of a job is refused with: no more is tested of it, want of memory aside
abbrev pub audit_told : AuditError → MaskedError
audit_told (audit.JobShape fault) = JobShape fault
audit_told e = NoMemory

-- more rounds than variables
abbrev pub rounds_refusal : ℕ → ℕ → Option MaskedError
rounds_refusal rounds bound = if nat_lt bound rounds then Some (Rounds rounds bound) else None

-- two that is zero, or else masks of fewer than three coefficients, or else no mask
abbrev pub form_refusal : Ops → ℕ → ℕ → Option MaskedError
form_refusal o mask_length rounds =
    if 1 +⟨ o ⟩ 1 == 0 then Some EvenCharacteristic
    else (if nat_lt mask_length 3 then Some (MaskTooShort mask_length) else (if rounds == 0 then Some NoRounds else None))

abbrev pub false_told : Option FalseStatement → Option MaskedError
false_told (Some s) = Some (FalseClaim s.statement s.claimed s.actual)
false_told None = None

-- the first false statement
abbrev pub statements_refusal : Ops → Problem → Option MaskedError
statements_refusal o p = false_told (capped (false_claim_of o p))

-- one of these, of so many masks of a length
abbrev pub masks_refusal : Ops → Problem → ℕ → ℕ → Option MaskedError
masks_refusal o p mask_length rounds =
    or_else (rounds_refusal rounds p.variables) (or_else (form_refusal o mask_length rounds) (statements_refusal o p))

-- the table's shape, or else one of these
abbrev pub refusal_after : Option AuditError → Ops → Problem → ℕ → ℕ → Option MaskedError
refusal_after shape o p mask_length rounds = or_else (option_map audit_told shape) (masks_refusal o p mask_length rounds)

-- the refusal of the shape, as an audit has it
abbrev pub shape_of : MaskedAsked → Option AuditError
shape_of q = shape_by (arity_of q.rows) q.channel.rules.max_bits q.rows q.channel.bits q.problem.variables q.problem.basis q.problem.order

-- the first refusal before a round is played, if there is one
abbrev pub masked_refusal : MaskedAsked → Option MaskedError
masked_refusal q = refusal_after (shape_of q) q.ops q.problem q.masks.mask_length (length q.masks.masks)

-- the refusal that a result is, if it is one
abbrev pub refusal_in : {T : Type 0} → Result T MaskedError → Option MaskedError
refusal_in (Ok x) = None
refusal_in (Err e) = Some e

-- what an unfit form of masks, or the rounds, are refused with; neither the prover nor the replay refuses more, want of memory aside
abbrev pub run_told : SumcheckError → MaskedError
run_told run.EvenCharacteristic = EvenCharacteristic
run_told (run.MaskTooShort l) = MaskTooShort l
run_told run.NoRounds = NoRounds
run_told (run.NoWitness i) = NoWitness i
run_told e = NoMemory
