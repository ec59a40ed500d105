-- The statements that the claims of a job make, and what the numbers of a claim have.
use Rattle.std.specs.Prelude.{◌≡◌, ℕ, ◌+◌, ◌<◌, All, List, length, map}
use Rattle.std.specs.List.{flat_map}
use Rattle.sc_definitions.specs.Statements.{Statement, claims, equality, successor, powers, products}
use Rattle.sc_table.specs.Strategy.{order_of}
use Rattle.sumcheck_members.specs.declared.job.Sizes.{Sizes}
use Rattle.sumcheck_members.specs.declared.job.EqualityClaim.{EqualityClaim}
use Rattle.sumcheck_members.specs.declared.job.SuccessorClaim.{SuccessorClaim}
use Rattle.sumcheck_members.specs.declared.job.ScalarClaim.{ScalarClaim}
use Rattle.sumcheck_members.specs.declared.job.ProductClaim.{ProductClaim}
use Rattle.sumcheck_members.specs.declared.job.Group.{Group}
use Rattle.sumcheck_members.specs.declared.job.Group.TheVariants.{Equality, Successor, Scalars, Products}

-- that the table's value at the point is the claimed one
abbrev pub equality_statement : EqualityClaim → Statement
equality_statement c = claims (equality c.point) c.value

-- that the table's value at the point through the successor map, in the slot of the selector, is the claimed one
abbrev pub successor_statement : SuccessorClaim → Statement
successor_statement c = claims (successor (order_of c.order) c.selector c.point) c.value

-- that the sum of the entries times the powers of the scalar, embedded in the extension, is the claimed one
abbrev pub scalar_statement : (ℕ → ℕ) → ScalarClaim → Statement
scalar_statement embedding c = claims (powers (embedding c.scalar)) c.value

-- that the sum of the entries times the products of the point's coordinates, embedded in the extension, is the claimed one
abbrev pub product_statement : (ℕ → ℕ) → ProductClaim → Statement
product_statement embedding c = claims (products (map embedding c.point)) c.value

-- the statements of a group, in order
abbrev pub group_claims : (ℕ → ℕ) → Group → List Statement
group_claims embedding (Equality cs) = map equality_statement cs
group_claims embedding (Successor cs) = map successor_statement cs
group_claims embedding (Scalars cs) = map (scalar_statement embedding) cs
group_claims embedding (Products cs) = map (product_statement embedding) cs

-- the statements of all groups, one group after the other
abbrev pub all_claims : (ℕ → ℕ) → List Group → List Statement
all_claims embedding groups = flat_map (group_claims embedding) groups

-- how many statements groups make, whatever the embedding
abbrev pub statement_count : List Group → ℕ
statement_count groups = length (all_claims (λ n. n) groups)

-- its numbers are below the size, and its point has so many coordinates
pub record EqualityFits (size variables : ℕ) (c : EqualityClaim) : Type 0 where
  pub arity : length c.point ≡ variables
  pub point : All (λ n. n < size) c.point
  pub value : c.value < size

-- its numbers are below the size, and its selector and its point have together so many coordinates
pub record SuccessorFits (size variables : ℕ) (c : SuccessorClaim) : Type 0 where
  pub arity : length c.selector + length c.point ≡ variables
  pub selector : All (λ n. n < size) c.selector
  pub point : All (λ n. n < size) c.point
  pub value : c.value < size

-- its scalar is of the base field, and its value of the extension
pub record ScalarFits (sizes : Sizes) (c : ScalarClaim) : Type 0 where
  pub scalar : c.scalar < sizes.base
  pub value : c.value < sizes.extension

-- its point is of the base field and has so many coordinates, and its value is of the extension
pub record ProductFits (sizes : Sizes) (variables : ℕ) (c : ProductClaim) : Type 0 where
  pub arity : length c.point ≡ variables
  pub point : All (λ n. n < sizes.base) c.point
  pub value : c.value < sizes.extension

-- each of its claims fits
abbrev pub GroupFits : Sizes → ℕ → Group → Type 0
GroupFits sizes variables (Equality cs) = All (EqualityFits sizes.extension variables) cs
GroupFits sizes variables (Successor cs) = All (SuccessorFits sizes.extension variables) cs
GroupFits sizes variables (Scalars cs) = All (ScalarFits sizes) cs
GroupFits sizes variables (Products cs) = All (ProductFits sizes variables) cs
