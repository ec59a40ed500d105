-- What contracts see of a selector.
use Rattle.std.specs.Prelude.{ℕ, map}
use Rattle.sc_definitions.specs.Statements.{Kind, powers, products}
use Rattle.sc_weights.specs.declared.select.Selector.{Selector}
use Rattle.sc_weights.specs.declared.select.Selector.TheVariants.{Scalar, Direct}

-- what a statement with it speaks of; the elements of its field have these numbers
abbrev pub selected_kind : {F : Type 0} → (F → ℕ) → Selector F → Kind
selected_kind number (Scalar var) = powers (number var)
selected_kind number (Direct point) = products (map number point.now)
