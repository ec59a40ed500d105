-- The shape of a masked batch, and why it is refused.
use Rattle.std.specs.Prelude.{◌≡◌, ◌≢◌, ℕ, ◌<◌, ◌≤◌}
use Rattle.sc_definitions.specs.Ring.{Ops, ◌+⟨◌⟩◌}
use Rattle.sc_zk_definitions.specs.declared.prelude.ZkPrelude.{ZkPrelude}
use Rattle.sc_zk_definitions.specs.MaskedTranscripts.{Shape, wire_length}
use Rattle.sc_transcript.specs.declared.error.SumcheckError.{SumcheckError}
use Rattle.sc_transcript.specs.declared.error.SumcheckError.TheVariants.{EvenCharacteristic, MaskTooShort, NoRounds}
use Rattle.sc_transcript.specs.declared.rounds.BatchShape.{BatchShape}
use Rattle.sc_zk_transcript.specs.declared.shape.ZkSumcheckShape.{ZkSumcheckShape}

-- the shape of these
abbrev pub shape_made : ZkPrelude → ℕ → ℕ → ℕ → ZkSumcheckShape
shape_made prelude num_rounds ell_zk pow_bits = record { prelude = prelude; num_rounds = num_rounds; ell_zk = ell_zk; pow_bits = pow_bits }

-- what it fixes
abbrev pub fixed_by : ZkSumcheckShape → Shape
fixed_by s = record { prelude = s.prelude; rounds = s.num_rounds; mask_length = s.ell_zk; bits = s.pow_bits }

-- the numbers of its rounds, each of which sends a wire
abbrev pub masked_batch : ZkSumcheckShape → BatchShape
masked_batch s = record { num_rounds = s.num_rounds; width = wire_length s.ell_zk; pow_bits = s.pow_bits }

-- masked rounds can be played in it
pub record IsFit (o : Ops) (s : ZkSumcheckShape) : Type 0 where
  pub odd : 1 +⟨ o ⟩ 1 ≢ 0
  pub long : 3 ≤ s.ell_zk
  pub some : 1 ≤ s.num_rounds

-- the first reason why not
abbrev pub IsUnfit : Ops → ZkSumcheckShape → SumcheckError → Type 0
IsUnfit o s EvenCharacteristic = 1 +⟨ o ⟩ 1 ≡ 0
IsUnfit o s (MaskTooShort l) = (1 +⟨ o ⟩ 1 ≢ 0) × (l ≡ s.ell_zk) × (s.ell_zk < 3)
IsUnfit o s NoRounds = (1 +⟨ o ⟩ 1 ≢ 0) × (3 ≤ s.ell_zk) × (s.num_rounds ≡ 0)
IsUnfit o s e = ⊥
