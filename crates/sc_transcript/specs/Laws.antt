-- The law of shapes.
use Rattle.std.specs.Prelude.{◌≡◌, ℕ, ◌^◌, ◌<◌, ◌≤◌}
use Rattle.sc_transcript.specs.declared.transcript.SumcheckShape.{SumcheckShape}
use Rattle.sc_transcript.specs.Shapes.{seed_of}

-- Two shapes of one round or more whose seeds are the same, over extensions of one degree, have as many rounds, the same difficulty and the same basis.
-- A difficulty is below 2^64 here, as every `usize` is.
abbrev pub SeedsTellShapes : Type 0
SeedsTellShapes =
    (degree : ℕ) (s s' : SumcheckShape) → 1 ≤ s.num_rounds → 1 ≤ s'.num_rounds → s.pow_bits < 2 ^ 64 → s'.pow_bits < 2 ^ 64 →
    seed_of degree s ≡ seed_of degree s' → (s.num_rounds ≡ s'.num_rounds) × (s.pow_bits ≡ s'.pow_bits) × (s.basis ≡ s'.basis)
