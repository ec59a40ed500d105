-- Whether a basis is offered with an order.
use Rattle.std.proofs.Common.{◌≡◌, Option, Some, None, refl}
use Rattle.sc_definitions.specs.Tables.{Basis, evaluation, projective, Order, prefix, suffix, IsOffered}
use Rattle.sc_audit_errors.specs.declared.error.AuditError.TheVariants.{JobShape}
use Rattle.sc_audit_errors.specs.declared.error.ShapeFault.TheVariants.{ProjectiveSuffix}
use Rattle.sc_audit_errors.specs.declared.error.AuditError.{AuditError}
use Rattle.sc_jobs.specs.Refusals.{offer_refusal, basis_refusal, or_later}

-- it is not refused where it is
pub offered-none : (basis : Basis) (order : Order) → IsOffered basis order → offer_refusal basis order ≡ None
offered-none evaluation order offered = refl
offered-none projective prefix offered = refl
offered-none projective suffix offered = absurd offered

-- and only there
pub unoffered : (basis : Basis) (order : Order) → (IsOffered basis order → ⊥) → offer_refusal basis order ≡ Some (JobShape ProjectiveSuffix)
unoffered evaluation order not = absurd (not tt)
unoffered projective prefix not = absurd (not tt)
unoffered projective suffix not = refl

-- a strategy that is not refused of a basis takes values, and nothing after that refuses it
pub values_taken : (basis : Basis) (later : Option AuditError) → or_later (basis_refusal basis) later ≡ None → (basis ≡ evaluation) × (later ≡ None)
values_taken evaluation later none = (refl, none)
values_taken projective later none = cc

pub values_only : (basis : Basis) → basis_refusal basis ≡ None → basis ≡ evaluation
values_only evaluation none = refl
values_only projective none = cc
