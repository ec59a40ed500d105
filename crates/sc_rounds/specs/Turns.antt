-- The round that turned a false claim into the true one, found on a pair of tables.
use Rattle.std.specs.Prelude.{◌≡◌, ℕ, ◌<◌, ◌^◌, List, [], ◌∷◌, map}
use Rattle.sc_definitions.specs.TwoTables.{TwoTables}
use Rattle.sc_definitions.specs.Lucky.{Turn}
use Rattle.sc_rounds.specs.declared.product_polynomial.ProductPolynomial.{ProductPolynomial}
use Rattle.sc_rounds.specs.declared.turns.FoundTurn.{FoundTurn}
use Rattle.sc_rounds.specs.Products.{variables_in, basis_in, order_in, evals_in, weights_in}

-- The pair has the entries of two tables of n variables, their basis and their order.
pub record IsPairOf {F EF : Type 0} (number : EF → ℕ) (t : TwoTables) (n : ℕ) (pair : ProductPolynomial F EF) : Type 0 where
  pub basis : t.basis ≡ basis_in pair
  pub order : t.order ≡ order_in pair
  pub variables : n ≡ variables_in pair
  pub evals : (b : ℕ) → b < 2 ^ variables_in pair → evals_in number pair b ≡ t.table b
  pub weights : (b : ℕ) → b < 2 ^ variables_in pair → weights_in number pair b ≡ t.weights b

-- its own
abbrev pub own_tables : {F EF : Type 0} → (EF → ℕ) → ProductPolynomial F EF → TwoTables
own_tables number pair = record { basis = basis_in pair; order = order_in pair; table = evals_in number pair; weights = weights_in number pair }

-- a turn that was found, by the numbers of its coefficients
abbrev pub turn_in : {EF : Type 0} → (EF → ℕ) → FoundTurn EF → Turn
turn_in number t = record { round = t.round; polynomial = map number t.polynomial }

-- the numbers of three coefficients
abbrev pub three_of : {EF : Type 0} → (EF → ℕ) → EF × EF × EF → List ℕ
three_of number cs = number cs.0 ∷ number cs.1 ∷ number cs.2 ∷ []
