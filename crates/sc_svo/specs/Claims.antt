-- Claims of a batch, by numbers.
use Rattle.std.specs.Prelude.{◌≡◌, ℕ, ◌^◌, ◌<◌, ◌≤◌, Bool, true, false, All, List, [], length, map}
use Rattle.sc_definitions.specs.Ring.{Ops, ◌+⟨◌⟩◌, ◌*⟨◌⟩◌}
use Rattle.sc_definitions.specs.Tables.{Order, prefix, entries, value}
use Rattle.sc_definitions.specs.Statements.{Kind, equality, successor, weight_of, true_value}
use Rattle.sc_definitions.specs.Combined.{Scaled}
use Rattle.sc_partials.specs.declared.sums.Sums.{Sums}
use Rattle.sc_partials.specs.Partials.{opened}
use Rattle.sc_partials.specs.Sums.{AddsWeights}
use Rattle.sc_svo.specs.declared.claims.SvoClaim.{SvoClaim}

-- what a claim is on: the value at a point, or the one through the successor map there
abbrev pub kind_by : Bool → List ℕ → Kind
kind_by false zs = equality zs
kind_by true zs = successor prefix [] zs

-- a claim's weights, and its coefficient
abbrev pub scaled_in : {EF : Type 0} → (EF → ℕ) → SvoClaim EF → Scaled
scaled_in number c = record { kind = kind_by c.successor (map number c.point); coefficient = number c.coefficient }

-- all of them
abbrev pub claims_in : {EF : Type 0} → (EF → ℕ) → List (SvoClaim EF) → List Scaled
claims_in number claims = map (scaled_in number) claims

-- what a table of n variables makes true of them: the value that each is on
abbrev pub true_values_of : Ops → ℕ → (ℕ → ℕ) → List Scaled → List ℕ
true_values_of o n f cs = map (λ (c : Scaled). true_value o n f c.kind) cs

-- claims at points of n coordinates
abbrev pub AreOn : {EF : Type 0} → ℕ → List (SvoClaim EF) → Type 0
AreOn n claims = All (λ (c : SvoClaim _). length c.point ≡ n) claims

-- Claims at points of as many coordinates as a table of so many rows has variables; l of these are bound by small-value rounds.
pub record FitsTable {EF : Type 0} (rows l : ℕ) (claims : List (SvoClaim EF)) : Type 0 where
  pub arity : ℕ
  pub rows_are : rows ≡ 2 ^ arity
  pub few : arity ≤ 40
  pub within : l ≤ arity
  pub on : AreOn arity claims

-- a claim's weight at a row, times its coefficient
abbrev pub scaled_weight : Ops → Scaled → ℕ → ℕ
scaled_weight o c b = c.coefficient *⟨ o ⟩ weight_of o c.kind b

-- what its weights are at a point, times its coefficient
abbrev pub scaled_value : Ops → Scaled → List ℕ → ℕ
scaled_value o c xs = c.coefficient *⟨ o ⟩ value o (weight_of o c.kind) xs

-- the grids of a claim were added, of a table and the claim's weights, times its coefficient
abbrev pub AddsClaim : {EF : Type 0} → (EF → ℕ) → Ops → Order → (ℕ → ℕ) → SvoClaim EF → List (Sums EF) → List (Sums EF) → Type 0
AddsClaim number o order f c old new = AddsWeights number o (opened order f (map number c.point)) (scaled_weight o (scaled_in number c)) old new

-- each row has gained what is given there
pub record AddsRows {EF : Type 0} (number : EF → ℕ) (o : Ops) (gain : ℕ → ℕ) (old new : List EF) : Type 0 where
  pub size : length new ≡ length old
  pub rows : (b : ℕ) → b < length old → entries number new b ≡ entries number old b +⟨ o ⟩ gain b
