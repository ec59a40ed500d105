-- Rounds over a product, as the functions that play and replay them see them.
use Rattle.std.specs.Prelude.{◌≡◌, ℕ, ◌<◌, ◌≤◌, List, [], length, Result, Ok, Err}
use Rattle.sc_definitions.specs.declared.events.Event.{Event}
use Rattle.sc_definitions.specs.Ring.{Ops}
use Rattle.sc_definitions.specs.Transcript.{Round, challenges}
use Rattle.sc_definitions.specs.Channels.{Channel, Wire, empty_wire, with_rounds, IsBuilt}
use Rattle.sc_definitions.specs.Products.{values_product, honest_values}
use Rattle.sc_degree.specs.declared.error.GenericDegreeError.{GenericDegreeError}
use Rattle.sc_degree.specs.declared.error.GenericDegreeError.TheVariants as degree
use Rattle.sc_degree.specs.declared.table_product.TableProduct.{TableProduct}
use Rattle.sc_degree.specs.Products.{tables_of, product_arity}
use Rattle.sc_degree.specs.Proofs.{proof_wire}
use Rattle.sc_product_audit.specs.declared.error.ProductError.{ProductError}
use Rattle.sc_product_audit.specs.declared.error.ProductError.TheVariants as errors
use Rattle.sc_product_audit.specs.declared.building.Built.{Built}
use Rattle.sc_product_audit.specs.ProductCases.{ProductCase, case_over, true_sum, product_start}
use Rattle.sc_product_audit.specs.ProductRounds.{product_built}

-- a product of so many tables can be played over a field of this size: one or more, and fewer than the field has elements
pub record IsDegree (size degree : ℕ) : Type 0 where
  pub some : 1 ≤ degree
  pub few : degree < size

-- the case of a product, over a channel after a history
abbrev pub case_at : {A : Type 0} → Ops → (A → ℕ) → TableProduct A → Channel → List Event → ProductCase
case_at o number product c h = case_over o (tables_of number product) (product_arity product) c h

-- What the refusal of rounds at a difficulty is answered as; neither the prover nor the replay refuses more than these, want of memory aside.
abbrev pub round_refusal : ℕ → GenericDegreeError → ProductError
round_refusal bits (degree.RoundCountMismatch expected actual) = errors.RoundCountMismatch expected actual
round_refusal bits (degree.PowWitnessCountMismatch expected actual) = errors.PowWitnessCountMismatch expected actual
round_refusal bits (degree.PolyEvalCountMismatch i expected actual) = errors.PolyEvalCountMismatch i expected actual
round_refusal bits (degree.InvalidPowWitness i) = errors.InvalidPowWitness i bits
round_refusal bits (degree.NoWitness i) = errors.NoWitness i
round_refusal bits e = errors.NoMemory

-- They are the rounds that an honest prover builds, on the wire, with the true sum and the product of the tables' values at their challenges.
pub record AreBuilt (k : ProductCase) (claimed : ℕ) (came : Wire) (product : ℕ) : Type 0 where
  pub rounds : List Round
  pub are : product_built k ≡ Ok rounds
  pub honest : IsBuilt (honest_values k.ops k.tables) k.channel (product_start k (true_sum k)) [] k.variables rounds
  pub count : length rounds ≡ k.variables
  pub wire : came ≡ with_rounds k.channel.bits empty_wire rounds
  pub claim : claimed ≡ true_sum k
  pub value : product ≡ values_product k.ops k.tables (challenges k.channel.rules k.channel.extension k.channel.bits (product_start k (true_sum k)) rounds)

-- what a build leaves, by its result
abbrev pub LeavesBuilt : {F EF : Type 0} → (F → ℕ) → (EF → ℕ) → ProductCase → Result (Built F EF) GenericDegreeError → Type 0
LeavesBuilt base number k (Ok b) = AreBuilt k (number b.proof.claimed_sum) (proof_wire base number b.proof) (number b.product)
LeavesBuilt base number k (Err (degree.NoWitness i)) = product_built k ≡ Err i
LeavesBuilt base number k (Err degree.NoMemory) = Unit {0}
LeavesBuilt base number k (Err e) = ⊥
