-- The laws of shapes, and of what a round's values send.
use Rattle.std.specs.Prelude.{◌≡◌, ◌≢◌, ℕ, suc, ◌^◌, ◌<◌, ◌≤◌, List, length, slice_index}
use Rattle.sc_definitions.specs.Ring.{Ops, element, ◌-⟨◌⟩◌}
use Rattle.sc_definitions.specs.Polynomials.{poly_at}
use Rattle.sc_definitions.specs.Interpolation.{sent_through}
use Rattle.sc_transcript.specs.declared.transcript.SumcheckShape.{SumcheckShape}
use Rattle.sc_transcript.specs.Shapes.{seed_of}
use Rattle.sc_degree.specs.declared.transcript.GenericDegreeShape.{GenericDegreeShape}
use Rattle.sc_degree.specs.Shapes.{generic_seed}
use Rattle.sc_degree.specs.Nodes.{node_of}

-- Two shapes whose seeds are the same, over extensions of one degree, have the same difficulty, as many rounds, and, where there is a round, the same degree.
-- Numbers are below 2^64 here, as every `usize` is.
abbrev pub SeedsTellDegrees : Type 0
SeedsTellDegrees =
    (parts : ℕ) (s s' : GenericDegreeShape) → s.pow_bits < 2 ^ 64 → s'.pow_bits < 2 ^ 64 → s.degree < 2 ^ 64 → s'.degree < 2 ^ 64 →
    generic_seed parts s ≡ generic_seed parts s' → (s.num_rounds ≡ s'.num_rounds) × (1 ≤ s.num_rounds → (s.pow_bits ≡ s'.pow_bits) × (s.degree ≡ s'.degree))

-- No seed of these rounds is one of quadratic rounds.
abbrev pub ProtocolsDiffer : Type 0
ProtocolsDiffer = (parts : ℕ) (s : GenericDegreeShape) (q : SumcheckShape) → generic_seed parts s ≢ seed_of parts q

-- The polynomial that the values of a round send under a claim: it has one coefficient more than there are values, takes each value at its node, and at
-- node 1 the claim less the value at node 0.
pub record TakesValues (o : Ops) (claim : ℕ) (values : List ℕ) : Type 0 where
  pub coefficients : length (sent_through o claim values) ≡ suc (length values)
  pub sent : (k : ℕ) → k < length values → poly_at o (sent_through o claim values) (node_of k) ≡ element o (slice_index values k)
  pub unsent : poly_at o (sent_through o claim values) 1 ≡ claim -⟨ o ⟩ slice_index values 0

-- It does so for all values, one or more, whose nodes are elements.
abbrev pub RoundsTakeValues : Ops → Type 0
RoundsTakeValues o = (claim : ℕ) (values : List ℕ) → 0 < length values → length values < o.size → TakesValues o claim values
