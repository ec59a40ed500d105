-- The basis of a job that is not refused is offered with its order.
use Rattle.std.proofs.Common.{◌≡◌, ℕ, Bool, true, false, Option, Some, None, if◌then◌else◌, ◌==◌, refl, sym}
use Rattle.std.specs.Prelude.{nat_lt}
use Rattle.std.proofs.lemmas.Option.{none-some}
use Rattle.sc_definitions.specs.Tables.{Basis, evaluation, projective, Order, prefix, suffix, IsOffered}
use Rattle.sc_audit_errors.specs.declared.error.AuditError.{AuditError}
use Rattle.sc_audit_errors.specs.declared.error.AuditError.TheVariants.{JobShape}
use Rattle.sc_audit_errors.specs.declared.error.ShapeFault.TheVariants.{TableLength, Difficulty, Arity, ProjectiveSuffix}
use Rattle.sc_audit_errors.specs.Arities.{arity_of}
use Rattle.sc_jobs.specs.Cases.{Asked}
use Rattle.sc_jobs.specs.Refusals.{or_later, offer_refusal, shape_by, shape_refusal, task_refusal, refusal_of}

or_later-first : (first later : Option AuditError) → or_later first later ≡ None → first ≡ None
or_later-first None later none = refl
or_later-first (Some e) later none = cc

-- the last of three tests
last-none : (high same : Bool) (first second : AuditError) (last : Option AuditError) → (if high then Some first else (if same then last else Some second)) ≡ None → last ≡ None
last-none true same first second last none = cc
last-none false true first second last none = none
last-none false false first second last none = cc

offer-offered : (basis : Basis) (order : Order) → offer_refusal basis order ≡ None → IsOffered basis order
offer-offered evaluation order none = tt
offer-offered projective prefix none = tt
offer-offered projective suffix none = none-some (JobShape ProjectiveSuffix) (sym none)

shape-offered : (arity : Option ℕ) (most rows bits n : ℕ) (basis : Basis) (order : Order) → shape_by arity most rows bits n basis order ≡ None → IsOffered basis order
shape-offered None most rows bits n basis order none = absurd (none-some (JobShape (TableLength rows)) (sym none))
shape-offered (Some v) most rows bits n basis order none =
    offer-offered basis order (last-none (nat_lt most bits) (v == n) (JobShape (Difficulty bits most)) (JobShape (Arity v n)) (offer_refusal basis order) none)

pub unrefused-offered : (q : Asked) → refusal_of q ≡ None → IsOffered q.case.problem.basis q.case.problem.order
unrefused-offered q none =
    shape-offered (arity_of q.case.rows) q.channel.rules.max_bits q.case.rows q.channel.bits q.case.problem.variables q.case.problem.basis q.case.problem.order
    (or_later-first (shape_refusal q) (task_refusal q) none)
