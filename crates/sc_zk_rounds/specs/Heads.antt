-- What stands before the rounds of a masked batch of either prelude, as calls leave it.
use Rattle.std.specs.Prelude.{◌≡◌, ℕ, List, ◌++◌, Result, Ok, Err}
use Rattle.sc_definitions.specs.declared.events.Event.{Event}
use Rattle.sc_definitions.specs.Events.{Extension}
use Rattle.sc_definitions.specs.Channels.{Channel}
use Rattle.sc_challenger.specs.Parties.{Party, channel_by}
use Rattle.sc_zk_definitions.specs.declared.prelude.ZkPrelude.TheVariants.{InheritedClaim, RecordedClaims}
use Rattle.sc_zk_definitions.specs.MaskedTranscripts.{Shape, Head, begun_events}
use Rattle.sc_zk_definitions.specs.MaskedBatches.{IsHeadPart, HeadedBatch, after_head, combination_of}
use Rattle.sc_zk_transcript.specs.declared.shape.ZkSumcheckShape.{ZkSumcheckShape}
use Rattle.sc_zk_transcript.specs.Shapes.{shape_made, fixed_by}

-- the shape of so many rounds under masks of a length, at a difficulty, of a claim that is handed on
abbrev pub inherited_shape : ℕ → ℕ → ℕ → ZkSumcheckShape
inherited_shape rounds mask_length bits = shape_made InheritedClaim rounds mask_length bits

-- the same of recorded claims
abbrev pub recorded_shape : ℕ → ℕ → ℕ → ZkSumcheckShape
recorded_shape rounds mask_length bits = shape_made RecordedClaims rounds mask_length bits

-- the batch of a shape over a challenger's channel, with what stands before its rounds, and the history where it begins
abbrev pub headed_by : Party → Extension → ℕ → ZkSumcheckShape → Head → List Event → HeadedBatch
headed_by p E size s given begun = record { channel = channel_by p E size s.pow_bits; shape = fixed_by s; given = given; begun = begun }

-- the history after the seed and the first step of a batch that begins at h
abbrev pub begun_at : Extension → List Event → Shape → ℕ → List Event
begun_at E h s claim = h ++ begun_events E s claim

-- What the seed and the first step of a batch leave that begins at h, by their answer: both stand there, or a part of what stands before the masks.
abbrev pub LeavesBegun : {X E : Type 0} → Channel → Shape → ℕ → List Event → Result X E → List Event → Type 0
LeavesBegun c s claim h (Ok x) h' = h' ≡ begun_at c.extension h s claim
LeavesBegun c s claim h (Err e) h' = IsHeadPart c s claim h h'

-- What all that stands before the rounds leaves, by its answer, which is the combination.
abbrev pub LeavesHead : {X E : Type 0} → (X → ℕ) → HeadedBatch → Result X E → List Event → Type 0
LeavesHead number b (Ok x) h = (number x ≡ combination_of b.channel b.shape b.given b.begun) × (h ≡ after_head b)
LeavesHead number b (Err e) h = IsHeadPart b.channel b.shape b.given.claim b.begun h
