-- What the seed of a masked batch tells.
use Rattle.std.specs.Prelude.{◌≡◌, ◌≢◌, ℕ, ◌^◌, ◌<◌, ◌≤◌}
use Rattle.sc_definitions.specs.Tables.{Basis}
use Rattle.sc_definitions.specs.Seeds.{quadratic_seed, degree_seed}
use Rattle.sc_zk_definitions.specs.MaskedTranscripts.{Shape, masked_seed}

-- Two shapes begin alike, have as many rounds, masks of one length, and, where there is a round, one difficulty.
pub record AreAlike (s s' : Shape) : Type 0 where
  pub prelude : s.prelude ≡ s'.prelude
  pub rounds : s.rounds ≡ s'.rounds
  pub mask_length : s.mask_length ≡ s'.mask_length
  pub bits : 1 ≤ s.rounds → s.bits ≡ s'.bits

-- The numbers of a shape are below 2^64, as every `usize` is.
pub record HasSmallNumbers (s : Shape) : Type 0 where
  pub mask_length : s.mask_length < 2 ^ 64
  pub bits : s.bits < 2 ^ 64

-- Shapes whose seeds are the same, over extensions of one degree, are alike.
abbrev pub MaskedSeedsTell : Type 0
MaskedSeedsTell = (parts : ℕ) (s s' : Shape) → HasSmallNumbers s → HasSmallNumbers s' → masked_seed parts s ≡ masked_seed parts s' → AreAlike s s'

-- No seed of masked rounds is one of quadratic rounds, or of rounds of any degree.
abbrev pub SeedsDiffer : Type 0
SeedsDiffer =
    (parts : ℕ) (s : Shape) →
    ((basis : Basis) (bits rounds : ℕ) → masked_seed parts s ≢ quadratic_seed parts basis bits rounds)
    × ((degree bits rounds : ℕ) → masked_seed parts s ≢ degree_seed parts degree bits rounds)
