-- The rounds of a layer in time linear in its gates and in the values of the layer below. Those that bind the first places, and then those that bind the
-- second ones, are rounds over three tables as long as the layer below: over all rows, the sum of value times factor and of a rest.
use Rattle.std.specs.Prelude.{◌≡◌, ◌<◌, ℕ, suc, ◌+◌, ◌*◌, ◌^◌, ◌==◌, Bool, List, [], ◌∷◌, ◌++◌, length, if◌then◌else◌}
use Rattle.sc_definitions.specs.Polynomials.{poly_at}
use Rattle.sc_definitions.specs.Ring.{Ops, ◌+⟨◌⟩◌, ◌*⟨◌⟩◌}
use Rattle.sc_definitions.specs.Tables.{evaluation, prefix, sum_below, value, equality_weight, digits, folded_in, folded_by}
use Rattle.sc_circuit_definitions.specs.declared.gate.Gate.{Gate}
use Rattle.sc_circuit_definitions.specs.Circuits.{is_same_kind, gate_weights}
use Rattle.sc_circuit_definitions.specs.LayerRounds.{LayerTables, gate_tables, layer_round}

-- one half of a layer's rounds: the values of the layer below, what they are multiplied by, and what is added
pub record Phase : Type 0 where
  pub values : ℕ → ℕ
  pub factors : ℕ → ℕ
  pub rests : ℕ → ℕ

-- what its rounds sum, at a point
unfoldable pub phase_at : Ops → Phase → List ℕ → ℕ
phase_at o p zs = value o p.factors zs *⟨ o ⟩ value o p.values zs +⟨ o ⟩ value o p.rests zs

-- its true claim after the challenges rs, with m variables left
unfoldable pub phase_claim : Ops → Phase → List ℕ → ℕ → ℕ
phase_claim o p rs m = sum_below o (2 ^ m) (λ b. phase_at o p (rs ++ digits m b))

-- The first places: a row's factor is the sum over all second places y of the weight of its sums, and of that of its products times the value at y; its rest
-- is that of the weight of its sums times the value at y.
unfoldable pub first_factor : Ops → LayerTables → ℕ → ℕ
first_factor o t x =
    sum_below o (2 ^ t.variables) (λ y. t.sums (x * 2 ^ t.variables + y) +⟨ o ⟩ t.products (x * 2 ^ t.variables + y) *⟨ o ⟩ t.below y)

unfoldable pub first_rest : Ops → LayerTables → ℕ → ℕ
first_rest o t x = sum_below o (2 ^ t.variables) (λ y. t.sums (x * 2 ^ t.variables + y) *⟨ o ⟩ t.below y)

abbrev pub first_phase : Ops → LayerTables → Phase
first_phase o t = record { values = t.below; factors = first_factor o t; rests = first_rest o t }

-- the values at us, by the second place y, of weights of both places
unfoldable pub row_at : Ops → ℕ → (ℕ → ℕ) → List ℕ → ℕ → ℕ
row_at o k f us y = value o (λ x. f (x * 2 ^ k + y)) us

-- The second places, after the challenges us of the first ones: with the weights of sums and products at us, a row's factor is that of its sums and the one
-- of its products times the value at us, and its rest is that of its sums times the value at us.
unfoldable pub second_factor : Ops → LayerTables → List ℕ → ℕ → ℕ
second_factor o t us y = row_at o t.variables t.sums us y +⟨ o ⟩ row_at o t.variables t.products us y *⟨ o ⟩ value o t.below us

unfoldable pub second_rest : Ops → LayerTables → List ℕ → ℕ → ℕ
second_rest o t us y = row_at o t.variables t.sums us y *⟨ o ⟩ value o t.below us

abbrev pub second_phase : Ops → LayerTables → List ℕ → Phase
second_phase o t us = record { values = t.below; factors = second_factor o t us; rests = second_rest o t us }

-- ---- the tables as they stand, with challenges bound

-- what a row adds
unfoldable pub row_sum : Ops → Phase → ℕ → ℕ
row_sum o p b = p.factors b *⟨ o ⟩ p.values b +⟨ o ⟩ p.rests b

-- the three tables with challenges bound, m variables being left
abbrev pub bound_phase : Ops → List ℕ → ℕ → Phase → Phase
bound_phase o rs m p = record {
  values = folded_by evaluation prefix o rs m p.values;
  factors = folded_by evaluation prefix o rs m p.factors;
  rests = folded_by evaluation prefix o rs m p.rests;
}

-- the three tables with the next variable at x, m variables being left after it
abbrev pub phase_at_next : Ops → ℕ → ℕ → Phase → Phase
phase_at_next o m x p = record {
  values = folded_in evaluation prefix o m x p.values;
  factors = folded_in evaluation prefix o m x p.factors;
  rests = folded_in evaluation prefix o m x p.rests;
}

-- ---- walks over the gates, which make the tables

-- the sum, over gates that are numbered from g on, of the shares of those whose place is x
unfoldable pub shares_at : Ops → (Gate → ℕ) → (ℕ → Gate → ℕ) → ℕ → List Gate → ℕ → ℕ
shares_at o place share g [] x = 0
shares_at o place share g (gate ∷ gates) x = (if x == place gate then share g gate else 0) +⟨ o ⟩ shares_at o place share (suc g) gates x

-- a gate's share of the factors, and of the rests, at its first place
unfoldable pub factor_share : Ops → (ℕ → ℕ) → (ℕ → ℕ) → ℕ → Gate → ℕ
factor_share o w v g gate = if gate.product then w g *⟨ o ⟩ v gate.right else w g

unfoldable pub rest_share : Ops → (ℕ → ℕ) → (ℕ → ℕ) → ℕ → Gate → ℕ
rest_share o w v g gate = if gate.product then 0 else w g *⟨ o ⟩ v gate.right

-- a gate's share of the sums, or of the products, at us and its second place
unfoldable pub row_share : Ops → Bool → (ℕ → ℕ) → List ℕ → ℕ → Gate → ℕ
row_share o product w us g gate = if is_same_kind gate.product product then w g *⟨ o ⟩ equality_weight o us gate.left else 0

-- ---- the laws

-- The polynomial of a round, at a number x, is the sum over the rows of the three tables as they stand, with the next variable at x: in the first half those
-- of the first places, and after its challenges us those of the second ones.
pub record PhasesMakeRounds (o : Ops) (t : LayerTables) : Type 0 where
  pub first : (rs : List ℕ) (m x : ℕ) → length rs + suc m ≡ t.variables →
      poly_at o (layer_round o t rs (m + t.variables)) x ≡ sum_below o (2 ^ m) (row_sum o (phase_at_next o m x (bound_phase o rs (suc m) (first_phase o t))))
  pub second : (us rs : List ℕ) (m x : ℕ) → length us ≡ t.variables → length rs + suc m ≡ t.variables →
      poly_at o (layer_round o t (us ++ rs) m) x ≡ sum_below o (2 ^ m) (row_sum o (phase_at_next o m x (bound_phase o rs (suc m) (second_phase o t us))))

-- A walk over the gates makes the factors and the rests of the first half, and the weights at us of which those of the second half are made.
pub record WalksMakePhases (o : Ops) (k : ℕ) (w v : ℕ → ℕ) (gates : List Gate) : Type 0 where
  pub factors : (x : ℕ) → first_factor o (gate_tables o k w v gates) x ≡ shares_at o (λ gate. gate.left) (factor_share o w v) 0 gates x
  pub rests : (x : ℕ) → first_rest o (gate_tables o k w v gates) x ≡ shares_at o (λ gate. gate.left) (rest_share o w v) 0 gates x
  pub rows : (product : Bool) (us : List ℕ) (y : ℕ) → length us ≡ k → y < 2 ^ k →
      row_at o k (gate_weights o product w k 0 gates) us y ≡ shares_at o (λ gate. gate.right) (row_share o product w us) 0 gates y
