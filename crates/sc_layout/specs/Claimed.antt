-- What clauses see of claims that were opened, and of what is recorded of them.
use Rattle.std.specs.Prelude.{ℕ, map}
use Rattle.std.specs.declared.cmp.PartialEq.{Ghosts as PartialEqOf}
use Rattle.sc_field.specs.declared.field.Field.{Ghosts as FieldOf}
use Rattle.sc_field.specs.declared.algebra.Algebra.{Ghosts as AlgebraOf}
use Rattle.sc_field.specs.declared.algebra.ExtensionField.{Ghosts as ExtensionOf}
use Rattle.sc_layout.specs.declared.multi_claim.ProverMultiClaim.{ProverMultiClaim}
use Rattle.sc_layout.specs.declared.opened_claim.VerifierMultiClaim.{VerifierMultiClaim}
use Rattle.sc_layout.specs.Openings.{Opened, opened}

-- what a verifier has recorded at one point
abbrev pub verifier_opened : {EF : Type 0} → (EF → ℕ) → VerifierMultiClaim EF → Opened
verifier_opened number c = opened (map number c.point) (map number c.evals.current) (map number c.evals.next)

module _ {F EF : Type 0} {f : FieldOf F} {p : PartialEqOf F} {x : ExtensionOf EF F} {a : AlgebraOf EF F} {e : FieldOf EF} {q : PartialEqOf EF} where
  -- what a prover has opened at one point
  abbrev pub prover_opened : ProverMultiClaim F EF f p x a e q → Opened
  prover_opened c = opened (map e.number c.coordinates) (map (λ v. e.number v.eval) c.current) (map (λ v. e.number v.eval) c.next)
