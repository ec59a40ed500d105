-- The transcript of masked rounds: its seed, what stands before the rounds, and its events.
use Rattle.std.specs.Prelude.{ℕ, ◌-◌, List, [], ◌∷◌, ◌++◌, max, replicate}
use Rattle.sc_definitions.specs.declared.interactions.Interaction.{Interaction}
use Rattle.sc_definitions.specs.declared.interactions.Kind.TheVariants.{Message, Challenge}
use Rattle.sc_definitions.specs.declared.interactions.Length.TheVariants.{Scalar}
use Rattle.sc_definitions.specs.declared.interactions.Label.TheVariants.{ClaimBatching, JointClaim, MaskCommitment, MuTilde, MaskCombination}
use Rattle.sc_definitions.specs.declared.interactions.Protocol.TheVariants.{Hvzk}
use Rattle.sc_definitions.specs.declared.events.Event.{Event}
use Rattle.sc_definitions.specs.declared.events.Event.TheVariants.{Draw}
use Rattle.sc_definitions.specs.Events.{Rules, Extension, words, extension_draw}
use Rattle.sc_definitions.specs.Transcript.{Round, sent, rounds_events}
use Rattle.sc_definitions.specs.Seeds.{Separator, separator, step, rounds_steps, eight_bytes, seed_words}
use Rattle.sc_zk_definitions.specs.declared.prelude.ZkPrelude.{ZkPrelude}
use Rattle.sc_zk_definitions.specs.declared.prelude.ZkPrelude.TheVariants.{RecordedClaims, InheritedClaim}

-- how many coefficients a round's polynomial has, over masks of so many: three at least
abbrev pub round_length : ℕ → ℕ
round_length mask_length = max mask_length 3

-- how many of them are sent
abbrev pub wire_length : ℕ → ℕ
wire_length mask_length = round_length mask_length - 1

-- What fixes the transcript of a masked batch: what it begins with, how many rounds it has, how
-- long its masks are, and the difficulty.
pub record Shape : Type 0 where
  pub prelude : ZkPrelude
  pub rounds : ℕ
  pub mask_length : ℕ
  pub bits : ℕ

-- ---- the seed, over an extension whose elements have so many parts

-- the first step
abbrev pub prelude_step : ℕ → ZkPrelude → Interaction
prelude_step parts RecordedClaims = step Challenge parts Scalar ClaimBatching
prelude_step parts InheritedClaim = step Message parts Scalar JointClaim

-- the steps before the rounds: the first one, the commitment, which has no parts, the masks' total,
-- and the combination
abbrev pub head_steps : ℕ → ZkPrelude → List Interaction
head_steps parts prelude =
    prelude_step parts prelude ∷ step Message 0 Scalar MaskCommitment ∷ step Message parts Scalar MuTilde
    ∷ step Challenge parts Scalar MaskCombination ∷ []

-- all steps
abbrev pub masked_steps : ℕ → Shape → List Interaction
masked_steps parts s = head_steps parts s.prelude ++ rounds_steps parts (wire_length s.mask_length) s.bits s.rounds

-- the separator; its label is the masks' length
abbrev pub masked_separator : ℕ → Shape → Separator
masked_separator parts s = separator 1 Hvzk (masked_steps parts s) (eight_bytes s.mask_length)

-- the seed
unfoldable pub masked_seed : ℕ → Shape → List ℕ
masked_seed parts s = seed_words (masked_separator parts s)

-- ---- events

-- those of the first step: the batching challenge is drawn, or a claim is observed
abbrev pub prelude_events : Extension → ZkPrelude → ℕ → List Event
prelude_events E RecordedClaims claim = replicate E.degree Draw
prelude_events E InheritedClaim claim = sent E (claim ∷ [])

-- those of the masks before the combination is drawn: the words of their commitment, and their
-- total
abbrev pub commitment_events : Extension → List ℕ → ℕ → List Event
commitment_events E commitment mu = words commitment ++ sent E (mu ∷ [])

-- those of the masks
abbrev pub masks_events : Extension → List ℕ → ℕ → List Event
masks_events E commitment mu = commitment_events E commitment mu ++ replicate E.degree Draw

-- What both sides have put before the rounds: the claim that a batch inherits, the words of the
-- masks' commitment, and their total.
pub record Head : Type 0 where
  pub claim : ℕ
  pub commitment : List ℕ
  pub mu : ℕ

-- the head of these
abbrev pub head : ℕ → List ℕ → ℕ → Head
head claim commitment mu = record { claim = claim; commitment = commitment; mu = mu }

-- the seed's words and the first step
abbrev pub begun_events : Extension → Shape → ℕ → List Event
begun_events E s claim = words (masked_seed E.degree s) ++ prelude_events E s.prelude claim

-- all that stands before the rounds
abbrev pub head_events : Extension → Shape → Head → List Event
head_events E s b = begun_events E s b.claim ++ masks_events E b.commitment b.mu

-- the transcript of a masked batch
abbrev pub masked_transcript : Extension → Shape → Head → List Round → List Event
masked_transcript E s b rounds = head_events E s b ++ rounds_events E s.bits rounds

-- ---- the two challenges before the rounds, where the batch begins at h

-- the one whose powers batch recorded claims
abbrev pub batching_at : Rules → Extension → List Event → Shape → ℕ
batching_at R E h s = extension_draw R E (h ++ words (masked_seed E.degree s))

-- the one that combines the masks with what they mask
abbrev pub combination_at : Rules → Extension → List Event → Shape → Head → ℕ
combination_at R E h s b =
    extension_draw R E (h ++ begun_events E s b.claim ++ commitment_events E b.commitment b.mu)

-- where the rounds begin
abbrev pub rounds_from : Extension → List Event → Shape → Head → List Event
rounds_from E h s b = h ++ head_events E s b
