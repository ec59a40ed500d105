-- What a prover shows, and constraints that it takes in.
use Rattle.std.specs.Prelude.{◌≡◌, ℕ, ◌-◌, ◌<◌, List, Option, Some, None}
use Rattle.sc_definitions.specs.Ring.{Ops, ◌+⟨◌⟩◌, ◌*⟨◌⟩◌}
use Rattle.sc_definitions.specs.Tables.{Basis, Order, rows_of, folded_in}
use Rattle.sc_definitions.specs.Statements.{Statement, batched_weight, batched_claim}
use Rattle.sc_definitions.specs.ProverStates.{entries_of}
use Rattle.sc_constraints.specs.declared.constraint.Constraint.{Constraint}
use Rattle.sc_constraints.specs.Constraints.{constraint_arity, constraint_challenge, constraint_power, constraint_statements}
use Rattle.sc_rounds.specs.declared.product_polynomial.ProductPolynomial.{ProductPolynomial}
use Rattle.sc_rounds.specs.Products.{numbers_of, variables_in, basis_in, order_in}
use Rattle.sc_definitions.specs.ProverViews.{ProverView, Stored, sum_with, weights_plus}

-- what a pair of tables and a claim show
abbrev pub shown_of : {F EF : Type 0} → (EF → ℕ) → ProductPolynomial F EF → EF → ProverView
shown_of number p claim = record {
  basis = basis_in p;
  order = order_in p;
  variables = variables_in p;
  evals = numbers_of number p.evals;
  weights = numbers_of number p.weights;
  claim = number claim;
}

-- ---- a challenge that is held

-- the number of a value, if there is one
abbrev pub number_if_some : {X : Type 0} → (X → ℕ) → Option X → Option ℕ
number_if_some number None = None
number_if_some number (Some x) = Some (number x)

-- a variable is left for a challenge that is held
abbrev pub IsLeftFor : {X : Type 0} → Option X → ℕ → Type 0
IsLeftFor {X} held n = (r : X) → held ≡ Some r → 0 < n

-- how many of n variables are left, where a challenge is held or none
abbrev pub left_of : {X : Type 0} → ℕ → Option X → ℕ
left_of n None = n
left_of n (Some r) = n - 1

-- the entries of a table of n variables, with a challenge bound that is held
abbrev pub bound_now : {X : Type 0} → Ops → (X → ℕ) → Basis → Order → ℕ → Option X → List ℕ → List ℕ
bound_now o number basis order n None xs = xs
bound_now o number basis order n (Some r) xs = entries_of (n - 1) (folded_in basis order o (n - 1) (number r) (rows_of xs))

-- what a pair of tables and a claim show where a challenge is held or none
abbrev pub held_shown : {F EF : Type 0} → Ops → (EF → ℕ) → ProductPolynomial F EF → Option EF → EF → ProverView
held_shown o number p held claim = record {
  basis = basis_in p;
  order = order_in p;
  variables = left_of (variables_in p) held;
  evals = bound_now o number (basis_in p) (order_in p) (variables_in p) held (numbers_of number p.evals);
  weights = bound_now o number (basis_in p) (order_in p) (variables_in p) held (numbers_of number p.weights);
  claim = number claim;
}

-- a pair and a challenge, by numbers
abbrev pub stored_of : {F EF : Type 0} → (EF → ℕ) → ProductPolynomial F EF → Option EF → Stored
stored_of number p held = record {
  evals = numbers_of number p.evals;
  weights = numbers_of number p.weights;
  held = number_if_some number held;
}

-- ---- constraints

-- A constraint by its numbers: how many variables its tables have, the challenge whose powers batch its statements, the power of the first, and these.
pub record Stated : Type 0 where
  pub arity : ℕ
  pub challenge : ℕ
  pub power : ℕ
  pub statements : List Statement

-- a constraint, where the base field's elements have the numbers that come first in the extension
abbrev pub stated : {F EF : Type 0} → (F → ℕ) → (EF → ℕ) → Constraint F EF → Stated
stated of number c = record {
  arity = constraint_arity c;
  challenge = constraint_challenge number c;
  power = constraint_power c;
  statements = constraint_statements of number c;
}

-- a constraint, if there is one
abbrev pub stated_if_some : {F EF : Type 0} → (F → ℕ) → (EF → ℕ) → Option (Constraint F EF) → Option Stated
stated_if_some of number None = None
stated_if_some of number (Some c) = Some (stated of number c)

-- its batched weights
abbrev pub weight_of : Ops → Stated → ℕ → ℕ
weight_of o c b = batched_weight o c.challenge c.power c.statements b

-- its batched claim
abbrev pub claim_of : Ops → Stated → ℕ
claim_of o c = batched_claim o c.challenge c.power c.statements

-- It is on tables of as many variables as are left, and its batched claim is the sum over all rows of evaluation times its batched weights.
pub record IsTrueConstraint (o : Ops) (s : ProverView) (c : Stated) : Type 0 where
  pub arity : c.arity ≡ s.variables
  pub claim : sum_with o s (weight_of o c) ≡ claim_of o c

-- so is a constraint, if there is one
abbrev pub IsTrueIfSome : Ops → ProverView → Option Stated → Type 0
IsTrueIfSome o s None = Unit {0}
IsTrueIfSome o s (Some c) = IsTrueConstraint o s c

-- the weights with a constraint taken in, if there is one
abbrev pub weights_with : Ops → ProverView → Option Stated → List ℕ
weights_with o s None = s.weights
weights_with o s (Some c) = weights_plus o s (weight_of o c)

-- the claim with a constraint taken in, if there is one
abbrev pub claim_with : Ops → ℕ → Option Stated → ℕ
claim_with o claim None = claim
claim_with o claim (Some c) = claim +⟨ o ⟩ claim_of o c

-- both
abbrev pub with_taken : Ops → ProverView → Option Stated → ProverView
with_taken o s c = record s { weights = weights_with o s c; claim = claim_with o s.claim c }
