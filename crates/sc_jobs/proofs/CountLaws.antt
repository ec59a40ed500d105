-- The counts of a proof.
use Rattle.std.proofs.Common.{◌≡◌, ℕ, length, if◌then◌else◌, ◌==◌, Some, None, refl, ◌∙◌, inl, inr}
use Rattle.std.proofs.lemmas.Bool.Decides.{eqb_tells}
use Rattle.std.specs.Prelude.{Option}
use Rattle.sc_transcript.specs.Data.{witness_count}
use Rattle.sc_audit_errors.specs.declared.error.AuditError.{AuditError}
use Rattle.sc_audit_errors.specs.declared.error.AuditError.TheVariants.{RoundCountMismatch, PowWitnessCountMismatch}
use Rattle.sc_jobs.specs.Cases.{Given}
use Rattle.sc_jobs.specs.Refusals.{count_refusal}

-- a choice by equal numbers
chosen : (k n : ℕ) (a b : Option AuditError) → k ≡ n → (if k == n then a else b) ≡ a
chosen k n a b is = elim (eqb_tells k n) [ inl t ↦ rw t.0 refl | inr t ↦ absurd (t.1 is) ]

other : (k n : ℕ) (a b : Option AuditError) → (k ≡ n → ⊥) → (if k == n then a else b) ≡ b
other k n a b apart = elim (eqb_tells k n) [ inl t ↦ absurd (apart t.1) | inr t ↦ rw t.0 refl ]

module _ (n bits : ℕ) (g : Given) where
  pub count-rounds : (length g.messages ≡ n → ⊥) → count_refusal n bits g ≡ Some (RoundCountMismatch n (length g.messages))
  count-rounds apart = other (length g.messages) n _ _ apart

  pub count-witnesses : length g.messages ≡ n → (length g.witnesses ≡ witness_count bits n → ⊥) → count_refusal n bits g ≡ Some (PowWitnessCountMismatch (witness_count bits n) (length g.witnesses))
  count-witnesses rounds apart = chosen (length g.messages) n _ _ rounds ∙ other (length g.witnesses) (witness_count bits n) _ _ apart

  pub count-none : length g.messages ≡ n → length g.witnesses ≡ witness_count bits n → count_refusal n bits g ≡ None
  count-none rounds witnesses = chosen (length g.messages) n _ _ rounds ∙ chosen (length g.witnesses) (witness_count bits n) _ _ witnesses
