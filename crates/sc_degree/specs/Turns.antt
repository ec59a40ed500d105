-- The round that turned a false claim into the true one, found on a product of tables.
use Rattle.std.specs.Prelude.{◌≡◌, ℕ, List, [], length, map, All}
use Rattle.std.specs.declared.vec.Vec.{Vec}
use Rattle.std.specs.declared.alloc.Global.{Global}
use Rattle.sc_definitions.specs.Ring.{Ops}
use Rattle.sc_definitions.specs.Lucky.{Turn, Course, product_course}
use Rattle.sc_definitions.specs.Products.{product_claim, values_product}
use Rattle.sc_degree.specs.declared.table_product.TableProduct.{TableProduct}
use Rattle.sc_degree.specs.declared.turns.FoundTurn.{FoundTurn}
use Rattle.sc_degree.specs.Products.{tables_of, product_arity}

-- a turn that was found, by the numbers of its coefficients
abbrev pub product_turn : {EF : Type 0} → (EF → ℕ) → FoundTurn EF → Turn
product_turn number t = record { round = t.round; polynomial = map number t.polynomial }

-- the numbers of the values that each message carries
abbrev pub messages_in : {EF : Type 0} → (EF → ℕ) → List (Vec EF Global) → List (List ℕ)
messages_in number messages = map (λ m. map number m.items) messages

-- A message and a challenge for each variable of a product: a message carries one value for each table.
pub record AreRoundsOf {EF : Type 0} (number : EF → ℕ) (p : TableProduct EF) (ms : List (Vec EF Global)) (rs : List EF) : Type 0 where
  pub messages : length ms ≡ product_arity p
  pub challenges : length rs ≡ product_arity p
  pub widths : All (λ m. length m.items ≡ length (tables_of number p)) ms

-- ---- the true claims of a product: before its rounds, after so many of them, and after the last

abbrev pub own_sum : {EF : Type 0} → Ops → (EF → ℕ) → TableProduct EF → ℕ
own_sum o number p = product_claim o (tables_of number p) [] (product_arity p)

abbrev pub own_course : {EF : Type 0} → Ops → (EF → ℕ) → TableProduct EF → Course
own_course o number p = product_course o (tables_of number p)

abbrev pub own_value : {EF : Type 0} → Ops → (EF → ℕ) → TableProduct EF → List ℕ → ℕ
own_value o number p rs = values_product o (tables_of number p) rs

-- All variables of a product are bound, and what is left of it is its value there.
pub record IsBoundAt {EF : Type 0} (o : Ops) (number : EF → ℕ) (before : TableProduct EF) (rs : List ℕ) (after : TableProduct EF) : Type 0 where
  pub arity : product_arity after ≡ 0
  pub value : product_claim o (tables_of number after) [] 0 ≡ own_value o number before rs
