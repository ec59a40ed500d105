-- What clauses see of the three tables of a successor.
use Rattle.std.specs.Prelude.{◌≡◌, ℕ, ◌^◌, ◌<◌, ◌++◌, Bool, true, false, List, length, map}
use Rattle.sc_definitions.specs.Ring.{Ops, ◌+⟨◌⟩◌, ◌-⟨◌⟩◌, ◌*⟨◌⟩◌}
use Rattle.sc_definitions.specs.Tables.{Order, prefix, suffix, evaluation, inner_product, folded_in}
use Rattle.sc_definitions.specs.Statements.{successor_weight}
use Rattle.sc_definitions.specs.ProverStates.{entries_of}
use Rattle.sc_definitions.specs.Grids.{low_row, high_row}
use Rattle.sc_definitions.specs.Parts.{Part, Equal, Carry, Done, Omega, closing, next_partial, PartTables, next_partials_of}
use Rattle.sc_table.specs.declared.poly.Poly.{Poly}
use Rattle.sc_table.specs.Polys.{variables_of, table_of}
use Rattle.sc_partials.specs.declared.next_partials.NextPartials.{NextPartials}
use Rattle.sc_partials.specs.declared.next_partials.NextSvoPartials.{NextSvoPartials}
use Rattle.sc_partials.specs.Partials.{other_order, joined, Opening}

-- the entries of a table
abbrev pub poly_numbers : {EF : Type 0} → (EF → ℕ) → Poly EF → List ℕ
poly_numbers number p = entries_of (variables_of p) (table_of number p)

-- those of the three tables
abbrev pub parts_in : {EF : Type 0} → (EF → ℕ) → NextPartials EF → PartTables
parts_in number p = record { done = poly_numbers number p.done; carry = poly_numbers number p.carry; omega = poly_numbers number p.omega }

-- the three tables of each round
abbrev pub next_tables_in : {EF : Type 0} → NextSvoPartials EF → List (NextPartials EF)
next_tables_in p = p.rounds.items

-- their entries
abbrev pub next_rounds_in : {EF : Type 0} → (EF → ℕ) → List (NextPartials EF) → List PartTables
next_rounds_in number rounds = map (parts_in number) rounds

-- A value of a table through the successor map at a point, and its three tables for so many rounds.
pub record NextSums : Type 0 where
  pub value : ℕ
  pub rounds : List PartTables

unfoldable pub next_sums_of : Order → Ops → (ℕ → ℕ) → List ℕ → ℕ → NextSums
next_sums_of order o f zs l = record { value = inner_product o (length zs) f (successor_weight o zs); rounds = next_partials_of order o f zs l }

-- a value and the three tables of rounds, by their numbers
abbrev pub next_sums_in : {EF : Type 0} → (EF → ℕ) → EF × NextSvoPartials EF → NextSums
next_sums_in number r = record { value = number r.0; rounds = next_rounds_in number (next_tables_in r.1) }

-- a table of n variables has these entries
pub record HasRows {EF : Type 0} (number : EF → ℕ) (n : ℕ) (f : ℕ → ℕ) (p : Poly EF) : Type 0 where
  pub variables : variables_of p ≡ n
  pub rows : (a : ℕ) → a < 2 ^ n → table_of number p a ≡ f a

-- three tables of n variables
pub record AreOf {EF : Type 0} (n : ℕ) (p : NextPartials EF) : Type 0 where
  pub done : variables_of p.done ≡ n
  pub carry : variables_of p.carry ≡ n
  pub omega : variables_of p.omega ≡ n

-- the table of each part; the equality part has none of its own
abbrev pub rows_by : {EF : Type 0} → (EF → ℕ) → NextPartials EF → Part → ℕ → ℕ
rows_by number p Equal = λ a. 0
rows_by number p Carry = table_of number p.carry
rows_by number p Done = table_of number p.done
rows_by number p Omega = table_of number p.omega

-- three tables of n variables have the entries that are given for each part
pub record HaveRows {EF : Type 0} (number : EF → ℕ) (n : ℕ) (of : Part → ℕ → ℕ) (p : NextPartials EF) : Type 0 where
  pub done : HasRows number n (of Done) p.done
  pub carry : HasRows number n (of Carry) p.carry
  pub omega : HasRows number n (of Omega) p.omega

-- Tables are those of the round that keeps the variables of these coordinates of a point, which are bound before the others.
pub record AreNextPartials {EF : Type 0} (order : Order) (o : Ops) (number : EF → ℕ) (f : ℕ → ℕ) (zs kept : List ℕ) (p : NextPartials EF) : Type 0 where
  pub others : List ℕ
  pub whole : zs ≡ joined order kept others
  pub tables : HaveRows number (length kept) (λ part. next_partial order o part f zs (length kept)) p

-- The tables of the first l rounds stand after a list, and the value is answered.
pub record NextLeaves {EF : Type 0} (o : Ops) (number : EF → ℕ) (g : Opening) (l : ℕ) (old new : List (NextPartials EF)) (value_is : EF) : Type 0 where
  pub rounds : next_rounds_in number new ≡ next_rounds_in number old ++ next_partials_of g.order o g.table g.point l
  pub sum : number value_is ≡ inner_product o (length g.point) g.table (successor_weight o g.point)

-- Only the tables of the first few rounds do, of fewer than l: what a refusal leaves.
pub record NextLeavesSome {EF : Type 0} (o : Ops) (number : EF → ℕ) (g : Opening) (l : ℕ) (old new : List (NextPartials EF)) : Type 0 where
  pub count : ℕ
  pub few : count < l
  pub rounds : next_rounds_in number new ≡ next_rounds_in number old ++ next_partials_of g.order o g.table g.point count

-- ---- a round that keeps one variable less

-- the row of a table where its last variable in the order is 0, or where it is 1, m being the others
abbrev pub half_row : Order → Bool → ℕ → ℕ → ℕ
half_row order false m a = low_row (other_order order) a
half_row order true m a = high_row (other_order order) m a

-- The tables of a round with one variable less, by those that are given for each part: z is the coordinate of the last variable in the order, which
-- joins those that are summed over.
abbrev pub done_fewer : Order → Ops → ℕ → ℕ → (Part → ℕ → ℕ) → ℕ → ℕ
done_fewer prefix o m z of a = folded_in evaluation suffix o m z (of Done) a +⟨ o ⟩ (1 -⟨ o ⟩ z) *⟨ o ⟩ of Carry (half_row prefix true m a)
done_fewer suffix o m z of a = folded_in evaluation prefix o m z (of Done) a

abbrev pub carry_fewer : Order → Ops → ℕ → ℕ → (Part → ℕ → ℕ) → ℕ → ℕ
carry_fewer prefix o m z of a = z *⟨ o ⟩ of Carry (half_row prefix false m a)
carry_fewer suffix o m z of a = z *⟨ o ⟩ of Carry (half_row suffix false m a) +⟨ o ⟩ (1 -⟨ o ⟩ z) *⟨ o ⟩ of Done (half_row suffix true m a)

abbrev pub omega_fewer : Order → Ops → ℕ → ℕ → (Part → ℕ → ℕ) → ℕ → ℕ
omega_fewer order o m z of a = z *⟨ o ⟩ of Omega (half_row order true m a)

-- the same for each part; the equality part has no table of its own
abbrev pub part_fewer : Order → Ops → ℕ → ℕ → (Part → ℕ → ℕ) → Part → ℕ → ℕ
part_fewer order o m z of Equal a = 0
part_fewer order o m z of Carry a = carry_fewer order o m z of a
part_fewer order o m z of Done a = done_fewer order o m z of a
part_fewer order o m z of Omega a = omega_fewer order o m z of a

-- the value, by what is given for each part
abbrev pub closing_sum : Order → Ops → (Part → ℕ → ℕ) → ℕ
closing_sum order o of = of (closing order) 0 +⟨ o ⟩ of Omega 0
