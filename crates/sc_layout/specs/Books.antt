-- What clauses see of a book, and what is added to it.
use Rattle.std.specs.Prelude.{◌≡◌, ℕ, List, [], ◌∷◌, ◌++◌, map}
use Rattle.sc_definitions.specs.Statements.{Statement, claims}
use Rattle.std.specs.declared.cmp.PartialEq.{Ghosts as PartialEqOf}
use Rattle.sc_field.specs.declared.field.Field.{Ghosts as FieldOf}
use Rattle.sc_field.specs.declared.algebra.Algebra.{Ghosts as AlgebraOf}
use Rattle.sc_field.specs.declared.algebra.ExtensionField.{Ghosts as ExtensionOf}
use Rattle.sc_statements.specs.declared.claim.Claim.{Claim}
use Rattle.sc_layout.specs.declared.multi_claim.ProverMultiClaim.{ProverMultiClaim}
use Rattle.sc_layout.specs.declared.book.Book.{Book}
use Rattle.sc_layout.specs.Claimed.{prover_opened}
use Rattle.sc_layout.specs.Openings.{Opened, current_at, Recorded}

-- what virtual claims say
abbrev pub virtual_statements : {EF : Type 0} → (EF → ℕ) → List (Claim EF (List EF) Unit) → List Statement
virtual_statements number cs = map (λ c. claims (current_at (map number c.point)) (number c.eval)) cs

-- the concrete claims of a book
abbrev pub concrete_in : {M EF : Type 0} → Book M EF → List M
concrete_in b = b.concrete.items

-- what a book has recorded
abbrev pub recorded_by : {M EF : Type 0} → (M → Opened) → (EF → ℕ) → Book M EF → Recorded
recorded_by opened number b = record { concrete = map opened (concrete_in b); virtual = virtual_statements number b.virtual_claims.items }

module _ {F EF : Type 0} {f : FieldOf F} {p : PartialEqOf F} {x : ExtensionOf EF F} {a : AlgebraOf EF F} {e : FieldOf EF} {q : PartialEqOf EF} where
  -- what a prover's book has recorded
  abbrev pub prover_recorded : Book (ProverMultiClaim F EF f p x a e q) EF → Recorded
  prover_recorded b = recorded_by prover_opened e.number b

-- a concrete claim was added, after the others
pub record GainsConcrete (x : Opened) (before after : Recorded) : Type 0 where
  pub concrete : after.concrete ≡ before.concrete ++ x ∷ []
  pub virtual : after.virtual ≡ before.virtual

-- a virtual claim was added, after the others
pub record GainsVirtual (s : Statement) (before after : Recorded) : Type 0 where
  pub concrete : after.concrete ≡ before.concrete
  pub virtual : after.virtual ≡ before.virtual ++ s ∷ []
