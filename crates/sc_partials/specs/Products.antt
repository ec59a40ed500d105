-- Tables of up to three variables by names for their values, and what lists of sums gain.
use Rattle.std.specs.Prelude.{◌≡◌, ℕ, ◌+◌, ◌<◌, ◌≤◌, List}
use Rattle.sc_definitions.specs.Ring.{Ops, ◌+⟨◌⟩◌, ◌-⟨◌⟩◌}
use Rattle.sc_definitions.specs.Tables.{entries}
use Rattle.sc_definitions.specs.Grids.{Digit}
use Rattle.sc_partials.specs.declared.products.Pair.{Pair}
use Rattle.sc_partials.specs.declared.products.Square.{Square}
use Rattle.sc_partials.specs.declared.products.Cube.{Cube}
use Rattle.sc_partials.specs.Staged.{at_digit}

module _ {EF : Type 0} (number : EF → ℕ) (o : Ops) where
  -- the value of a pair at its variable's digit
  abbrev pub pair_at : Digit → Pair EF → ℕ
  pair_at d x = at_digit o d (number x.low) (number x.high)

  -- that of a square at the digits of its first and of its second variable
  abbrev pub square_at : Digit → Digit → Square EF → ℕ
  square_at d e x = at_digit o d (at_digit o e (number x.low.low) (number x.high.low)) (at_digit o e (number x.low.high) (number x.high.high))

  -- that of a cube at the digits of its three variables
  abbrev pub cube_at : Digit → Digit → Digit → Cube EF → ℕ
  cube_at d e c x =
      let row : Digit → ℕ → ℕ → ℕ = at_digit o in
      row d (row e (row c (number x.low.low.low) (number x.high.low.low)) (row c (number x.low.high.low) (number x.high.high.low)))
      (row e (row c (number x.low.low.high) (number x.high.low.high)) (row c (number x.low.high.high) (number x.high.high.high)))

  -- the values of a pair are those of one less those of another
  pub record IsPairLess (high low new : Pair EF) : Type 0 where
    pub at_zero : number new.low ≡ number high.low -⟨ o ⟩ number low.low
    pub at_one : number new.high ≡ number high.high -⟨ o ⟩ number low.high

  -- The n values from a place on have gained those of a table, and no other has changed.
  pub record Gains (from n : ℕ) (table : ℕ → ℕ) (old new : List EF) : Type 0 where
    pub gained : (k : ℕ) → k < n → entries number new (from + k) ≡ entries number old (from + k) +⟨ o ⟩ table k
    pub before : (b : ℕ) → b < from → entries number new b ≡ entries number old b
    pub behind : (b : ℕ) → from + n ≤ b → entries number new b ≡ entries number old b

-- A square has the values of a table's rows: the given one, and those that are so much further where the first or the second variable is 1.
pub record HasRows {EF : Type 0} (number : EF → ℕ) (table : ℕ → ℕ) (from first second : ℕ) (x : Square EF) : Type 0 where
  pub neither : number x.low.low ≡ table from
  pub one : number x.low.high ≡ table (from + first)
  pub other : number x.high.low ≡ table (from + second)
  pub both : number x.high.high ≡ table (from + first + second)
