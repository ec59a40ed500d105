-- Statements as the claims of a batch, and the test of what they claim.
use Rattle.std.specs.Prelude.{◌≡◌, ℕ, ◌+◌, ◌^◌, ◌<◌, ◌≤◌, List, [], ◌++◌, All, length, map, Some, None, Result, Ok, Err}
use Rattle.sc_definitions.specs.Ring.{Ops, power}
use Rattle.sc_definitions.specs.Tables.{evaluation, prefix}
use Rattle.sc_definitions.specs.Statements.{Kind, equality, successor, Statement, claims, claimed_values}
use Rattle.sc_definitions.specs.Combined.{Scaled, combined_weight, scaled_from}
use Rattle.sc_definitions.specs.Problem.{Problem, weights_of}
use Rattle.sc_constraints.specs.FalseClaims.{capped}
use Rattle.sc_svo.specs.Claims.{claims_in}
use Rattle.sc_svo.specs.Batches.{GridBatch, IsTableOf}
use Rattle.sc_audit_errors.specs.declared.error.AuditError.{AuditError}
use Rattle.sc_audit_errors.specs.declared.error.AuditError.TheVariants.{NoMemory}
use Rattle.sc_jobs.specs.declared.claims.Claimed.{Claimed}
use Rattle.sc_jobs.specs.Refusals.{false_refusal}
use Rattle.sc_jobs.specs.Figures.{false_claim_of}

-- ---- the claims of a batch

-- a value at a point is claimed, or a value through the successor map without a selector
abbrev pub IsTaken : Kind → Type 0
IsTaken (equality zs) = Unit {0}
IsTaken (successor order [] zs) = Unit {0}
IsTaken kind = ⊥

-- so it is by each statement
abbrev pub AreTaken : List Statement → Type 0
AreTaken ss = All (λ s. IsTaken s.kind) ss

-- what a claim of a batch is on: without a selector a successor has one weight in both orders
abbrev pub kind_taken : Kind → Kind
kind_taken (successor order [] zs) = successor prefix [] zs
kind_taken kind = kind

-- the claims that statements are, each times a power of a challenge, which is p for the first of them
abbrev pub claims_from : Ops → ℕ → ℕ → List Statement → List Scaled
claims_from o challenge p ss = scaled_from o challenge p (map (λ (s : Statement). claims (kind_taken s.kind) s.claimed) ss)

-- claims, and the values that are claimed, in one order
pub record Listed : Type 0 where
  pub claims : List Scaled
  pub values : List ℕ

abbrev pub listed_in : {EF : Type 0} → (EF → ℕ) → Claimed EF → Listed
listed_in number c = record { claims = claims_in number c.claims.items; values = map number c.values.items }

-- statements were appended
pub record Appends (o : Ops) (challenge p : ℕ) (ss : List Statement) (old now : Listed) : Type 0 where
  pub claims : now.claims ≡ old.claims ++ claims_from o challenge p ss
  pub values : now.values ≡ old.values ++ claimed_values ss

-- the same, where the factor of the first of them is given in place of its power of the challenge
abbrev pub AppendsBy : Ops → ℕ → ℕ → List Statement → Listed → Listed → Type 0
AppendsBy o challenge first ss old now = (p : ℕ) → first ≡ power o challenge p → Appends o challenge p ss old now

-- the factor of a claim after them
abbrev pub IsNextFactor : Ops → ℕ → ℕ → List Statement → ℕ → Type 0
IsNextFactor o challenge first ss next = (p : ℕ) → first ≡ power o challenge p → next ≡ power o challenge (p + length ss)

-- A batch is on a problem's table, which is of values, of no more rounds than it has variables, and its claims' weights are the batched ones at each of
-- its rows.
pub record IsBatchOf (o : Ops) (p : Problem) (b : GridBatch) : Type 0 where
  pub basis : p.basis ≡ evaluation
  pub order : b.order ≡ p.order
  pub variables : b.variables ≡ p.variables
  pub weights : (row : ℕ) → row < 2 ^ p.variables → combined_weight o b.claims row ≡ weights_of o p row
  pub within : length b.grids ≤ p.variables
  pub grids : IsTableOf o b p.table

-- the refusal of the first false statement, or want of memory
abbrev pub RefusesClaim : Ops → Problem → AuditError → Type 0
RefusesClaim o p NoMemory = Unit {0}
RefusesClaim o p e = false_refusal (capped (false_claim_of o p)) ≡ Some e

-- what a test of the claims finds, by its result: no false statement, or such a refusal
abbrev pub TestsClaims : {X : Type 0} → Ops → Problem → Result X AuditError → Type 0
TestsClaims o p (Ok x) = false_claim_of o p ≡ None
TestsClaims o p (Err e) = RefusesClaim o p e
