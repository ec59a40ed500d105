-- What clauses see of partial tables.
use Rattle.std.specs.Prelude.{◌≡◌, ℕ, ◌^◌, ◌<◌, ◌≤◌, ◌++◌, List, [], ◌∷◌, length, map}
use Rattle.sc_definitions.specs.Ring.{Ops}
use Rattle.sc_definitions.specs.Tables.{Order, prefix, suffix, value}
use Rattle.sc_definitions.specs.ProverStates.{entries_of}
use Rattle.sc_definitions.specs.Partials.{partial, partials_of}
use Rattle.sc_table.specs.declared.poly.Poly.{Poly}
use Rattle.sc_table.specs.Polys.{variables_of, table_of}
use Rattle.sc_partials.specs.declared.partials.EqPartials.{EqPartials}
use Rattle.sc_partials.specs.declared.partials.EqSvoPartials.{EqSvoPartials}

-- the entries of a partial table
abbrev pub numbers_in : {EF : Type 0} → (EF → ℕ) → EqPartials EF → List ℕ
numbers_in number p = entries_of (variables_of p.table) (table_of number p.table)

-- the entries of the partial tables of all rounds
abbrev pub rounds_in : {EF : Type 0} → (EF → ℕ) → List (EqPartials EF) → List (List ℕ)
rounds_in number rounds = map (numbers_in number) rounds

-- the partial tables, one a round
abbrev pub tables_in : {EF : Type 0} → EqSvoPartials EF → List (EqPartials EF)
tables_in p = p.rounds.items

-- the order that binds the variables from the other end
abbrev pub other_order : Order → Order
other_order prefix = suffix
other_order suffix = prefix

-- A value of a table at a point, and its partial tables for so many rounds.
pub record PartialSums : Type 0 where
  pub value : ℕ
  pub rounds : List (List ℕ)

unfoldable pub partial_sums_of : Order → Ops → (ℕ → ℕ) → List ℕ → ℕ → PartialSums
partial_sums_of order o f zs l = record { value = value o f zs; rounds = partials_of order o f zs l }

-- a value and partial tables, by their numbers
abbrev pub partial_sums_in : {EF : Type 0} → (EF → ℕ) → EF × EqSvoPartials EF → PartialSums
partial_sums_in number r = record { value = number r.0; rounds = rounds_in number (tables_in r.1) }

-- the coordinates of the variables that are bound first, and those of the others, as they stand in a point
abbrev pub joined : {X : Type 0} → Order → List X → List X → List X
joined prefix near far = near ++ far
joined suffix near far = far ++ near

-- A table is the partial one that keeps the variables of these coordinates of a point, which are bound before the others.
pub record IsPartial {EF : Type 0} (order : Order) (o : Ops) (number : EF → ℕ) (f : ℕ → ℕ) (zs kept : List ℕ) (p : Poly EF) : Type 0 where
  pub others : List ℕ
  pub whole : zs ≡ joined order kept others
  pub variables : variables_of p ≡ length kept
  pub rows : (a : ℕ) → a < 2 ^ length kept → table_of number p a ≡ partial order o f zs (length kept) a

-- a table that is opened at a point, and the order in which its variables are bound
pub record Opening : Type 0 where
  pub order : Order
  pub table : ℕ → ℕ
  pub point : List ℕ

abbrev pub opened : Order → (ℕ → ℕ) → List ℕ → Opening
opened order f zs = record { order = order; table = f; point = zs }

-- The partial tables of the first l rounds stand after a list, and the value is answered.
pub record Leaves {EF : Type 0} (o : Ops) (number : EF → ℕ) (g : Opening) (l : ℕ) (old new : List (EqPartials EF)) (value_is : EF) : Type 0 where
  pub rounds : rounds_in number new ≡ rounds_in number old ++ partials_of g.order o g.table g.point l
  pub sum : number value_is ≡ value o g.table g.point

-- Only the partial tables of the first few rounds do, of fewer than l: what a refusal leaves.
pub record LeavesSome {EF : Type 0} (o : Ops) (number : EF → ℕ) (g : Opening) (l : ℕ) (old new : List (EqPartials EF)) : Type 0 where
  pub count : ℕ
  pub few : count < l
  pub rounds : rounds_in number new ≡ rounds_in number old ++ partials_of g.order o g.table g.point count

-- A list is what it was, with at most so many items after it.
pub record GrowsBy {X : Type 0} (most : ℕ) (old new : List X) : Type 0 where
  pub added : List X
  pub few : length added ≤ most
  pub kept : new ≡ old ++ added

-- of the coordinates of kept variables, that of the one which is bound last, and the others
abbrev pub LastOf : {X : Type 0} → Order → List X → X → List X → Type 0
LastOf prefix kept z rest = kept ≡ rest ++ z ∷ []
LastOf suffix kept z rest = kept ≡ z ∷ rest
