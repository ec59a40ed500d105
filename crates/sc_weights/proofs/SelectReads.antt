-- What a selector's statement speaks of, kind by kind.
use Rattle.std.proofs.Common.{◌≡◌, ℕ, ◌^◌, List, map, ap, refl}
use Rattle.std.specs.Borrow.{Bor}
use Rattle.sc_definitions.specs.Ring.{Ops, times, power}
use Rattle.sc_definitions.specs.Tables.{Basis, monomial, sum_below, inner_product, value_in}
use Rattle.sc_definitions.specs.Statements.{weight_of, true_value}
use Rattle.sc_weights.specs.declared.select.Selector.{Selector}
use Rattle.sc_weights.specs.declared.select.Selector.TheVariants.{Scalar, Direct}
use Rattle.sc_weights.specs.Selectors.{selected_kind}

module _ (o : Ops) {F : Type 0} (of : F → ℕ) (s : Selector F) where
  module _ (var : F) (is : s ≡ Scalar var) where
    pub weight_of-scalar : (b : ℕ) → weight_of o (selected_kind of s) b ≡ power o (of var) b
    unfolding weight_of
    weight_of-scalar b = ap (λ t. weight_of o (selected_kind of t) b) is

    pub true_value-scalar : (n : ℕ) (f : ℕ → ℕ) → true_value o n f (selected_kind of s) ≡ inner_product o n f (power o (of var))
    unfolding true_value weight_of inner_product
    true_value-scalar n f = ap (λ t. true_value o n f (selected_kind of t)) is

    pub value-scalar : (basis : Basis) (xs : List ℕ) → value_in basis o (weight_of o (selected_kind of s)) xs ≡ value_in basis o (power o (of var)) xs
    unfolding weight_of
    value-scalar basis xs = ap (λ t. value_in basis o (weight_of o (selected_kind of t)) xs) is

  module _ (point : Bor (List F)) (is : s ≡ Direct point) where
    pub weight_of-direct : (b : ℕ) → weight_of o (selected_kind of s) b ≡ monomial o (map of point.now) b
    unfolding weight_of
    weight_of-direct b = ap (λ t. weight_of o (selected_kind of t) b) is

    pub true_value-direct : (n : ℕ) (f : ℕ → ℕ) → true_value o n f (selected_kind of s) ≡ inner_product o n f (monomial o (map of point.now))
    unfolding true_value weight_of inner_product
    true_value-direct n f = ap (λ t. true_value o n f (selected_kind of t)) is

    pub value-direct : (basis : Basis) (xs : List ℕ) → value_in basis o (weight_of o (selected_kind of s)) xs ≡ value_in basis o (monomial o (map of point.now)) xs
    unfolding weight_of
    value-direct basis xs = ap (λ t. value_in basis o (weight_of o (selected_kind of t)) xs) is

pub inner_product-is : (o : Ops) (n : ℕ) (f w : ℕ → ℕ) → inner_product o n f w ≡ sum_below o (2 ^ n) (λ b. times o (f b) (w b))
unfolding inner_product
inner_product-is o n f w = refl
