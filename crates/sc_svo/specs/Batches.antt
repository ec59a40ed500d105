-- What clauses see of a batch.
use Rattle.std.specs.Prelude.{◌≡◌, ℕ, suc, ◌+◌, ◌-◌, ◌^◌, ◌<◌, List, length}
use Rattle.std.specs.declared.cmp.PartialEq.{Ghosts as PartialEqOf}
use Rattle.sc_definitions.specs.Ring.{Ops}
use Rattle.sc_definitions.specs.Tables.{evaluation, Order, folded_by}
use Rattle.sc_definitions.specs.Rounds.{honest_message, partial_value}
use Rattle.sc_definitions.specs.Grids.{grids_of}
use Rattle.sc_definitions.specs.Combined.{Scaled, combined_weight}
use Rattle.sc_field.specs.declared.field.Field.{Ghosts as FieldOf}
use Rattle.sc_field.specs.declared.algebra.Algebra.{Ghosts as AlgebraOf}
use Rattle.sc_field.specs.declared.algebra.ExtensionField.{Ghosts as ExtensionOf}
use Rattle.sc_table.specs.declared.poly.Poly.{Poly}
use Rattle.sc_table.specs.Polys.{variables_of, table_of}
use Rattle.sc_table.specs.Strategy.{order_of}
use Rattle.sc_svo.specs.declared.batch.SvoBatch.{SvoBatch}
use Rattle.sc_svo.specs.Claims.{claims_in}
use Rattle.sc_svo.specs.Grids.{grids_shown}

-- A batch by numbers: the order in which its rounds bind variables, how many variables its tables have, its claims, and its grids.
pub record GridBatch : Type 0 where
  pub order : Order
  pub variables : ℕ
  pub claims : List Scaled
  pub grids : List (List ℕ × List ℕ)

module _ {F EF : Type 0} {f : FieldOf F} {p : PartialEqOf F} {x : ExtensionOf EF F} {a : AlgebraOf EF F} {e : FieldOf EF} {q : PartialEqOf EF} where
  abbrev pub batch_in : SvoBatch F EF f p x a e q → GridBatch
  batch_in s = record {
    order = order_of s.order;
    variables = s.variables;
    claims = claims_in e.number s.claims.items;
    grids = grids_shown e.number s.grids;
  }

-- A table is one of the batch: its grids with the claims are the batch's.
abbrev pub IsTableOf : Ops → GridBatch → (ℕ → ℕ) → Type 0
IsTableOf o s f = s.grids ≡ grids_of s.order o s.variables f (combined_weight o s.claims) (length s.grids)

-- A batch was made on a table of so many rows, of these claims, and has the grids of l rounds, which are the table's.
pub record IsMadeOn (o : Ops) (order : Order) (f : ℕ → ℕ) (rows : ℕ) (cs : List Scaled) (l : ℕ) (s : GridBatch) : Type 0 where
  pub order_is : s.order ≡ order
  pub variables : rows ≡ 2 ^ s.variables
  pub claims : s.claims ≡ cs
  pub rounds : length s.grids ≡ l
  pub grids : IsTableOf o s f

-- what an honest round sends after these challenges, of a table and the weights of the claims
abbrev pub honest_of : Ops → GridBatch → (ℕ → ℕ) → List ℕ → List ℕ
honest_of o s f rs = honest_message evaluation s.order o f (combined_weight o s.claims) rs (s.variables - suc (length rs))

-- a table of the batch's variables with these challenges' variables bound
pub record IsBoundBy {EF : Type 0} (o : Ops) (number : EF → ℕ) (s : GridBatch) (f : ℕ → ℕ) (rs : List ℕ) (p : Poly EF) : Type 0 where
  pub variables : length rs + variables_of p ≡ s.variables
  pub rows : (b : ℕ) → b < 2 ^ variables_of p → table_of number p b ≡ folded_by evaluation s.order o rs (variables_of p) f b

-- the same by the original table: each entry is that of the table with all these challenges placed
pub record IsPlacedBy {EF : Type 0} (o : Ops) (number : EF → ℕ) (s : GridBatch) (f : ℕ → ℕ) (rs : List ℕ) (p : Poly EF) : Type 0 where
  pub variables : length rs + variables_of p ≡ s.variables
  pub rows : (b : ℕ) → b < 2 ^ variables_of p → table_of number p b ≡ partial_value evaluation s.order o f rs (variables_of p) b
