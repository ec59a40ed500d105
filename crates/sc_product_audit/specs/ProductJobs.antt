-- A job by the numbers of its elements, and what it asks of a challenger.
use Rattle.std.specs.Prelude.{ℕ, map}
use Rattle.std.specs.declared.cmp.PartialEq.{Ghosts as PartialEqOf}
use Rattle.sc_field.specs.declared.field.Field.{Ghosts as FieldOf}
use Rattle.sc_field.specs.declared.algebra.Algebra.{Ghosts as AlgebraOf}
use Rattle.sc_field.specs.declared.algebra.ExtensionField.{Ghosts as ExtensionOf}
use Rattle.sc_challenger.specs.Parties.{Party, channel_by}
use Rattle.sc_degree.specs.declared.proof.GenericDegreeProof.{GenericDegreeProof}
use Rattle.sc_degree.specs.Proofs.{proof_wire}
use Rattle.sc_product_audit.specs.declared.job.ProductMode.{ProductMode}
use Rattle.sc_product_audit.specs.declared.job.ProductMode.TheVariants.{Build, Check}
use Rattle.sc_product_audit.specs.declared.job.ProductJob.{ProductJob}
use Rattle.sc_product_audit.specs.ProductCases.{ProductGiven, ProductTask, to_build, to_check, ProductAsked}

-- what a proof hands in
abbrev pub given_by : {F EF : Type 0} → (F → ℕ) → (EF → ℕ) → GenericDegreeProof F EF → ProductGiven
given_by base number p = record { claimed = number p.claimed_sum; came = proof_wire base number p }

-- what a mode asks for
abbrev pub task_by : {F EF : Type 0} → (F → ℕ) → (EF → ℕ) → ProductMode F EF → ProductTask
task_by base number Build = to_build
task_by base number (Check proof) = to_check (given_by base number proof)

module _ {F EF : Type 0} {f : FieldOf F} {p : PartialEqOf F} {x : ExtensionOf EF F} {a : AlgebraOf EF F} {e : FieldOf EF} {q : PartialEqOf EF} where
  -- what a job asks of a challenger
  abbrev pub product_asked : ProductJob F EF f p x a e q → Party → ProductAsked
  product_asked job party = record {
    ops = e.ops;
    tables = map (λ t. map e.number t.items) job.tables.items;
    task = task_by f.number e.number job.mode;
    channel = channel_by party x.extension f.ops.size job.pow_bits;
    history = party.history;
  }
