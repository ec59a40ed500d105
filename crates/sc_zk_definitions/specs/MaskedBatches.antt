-- A masked batch that is asked of a prover, a simulator or a verifier: what fixes it, where its
-- rounds begin, and what it leaves.
use Rattle.std.specs.Prelude.{◌≡◌, ◌⊎◌, ℕ, List, [], ◌++◌, length, slice_index_or}
use Rattle.sc_definitions.specs.declared.events.Event.{Event}
use Rattle.sc_definitions.specs.Ring.{Ops, ◌+⟨◌⟩◌}
use Rattle.sc_definitions.specs.Events.{words}
use Rattle.sc_definitions.specs.Transcript.{Round, messages_of, rounds_events, challenges}
use Rattle.sc_definitions.specs.Channels.{Channel, VerifierState, verifier_state, IsBuilt, IsReplayed}
use Rattle.sc_definitions.specs.ProverStates.{Setting, ProverState}
use Rattle.sc_zk_definitions.specs.Masks.{masks_total, next_target, first_target}
use Rattle.sc_zk_definitions.specs.MaskedTranscripts.{Shape, Head, head, masked_seed, begun_events, combination_at, rounds_from}
use Rattle.sc_zk_definitions.specs.MaskedRuns.{Masking, IsMasked}

-- ---- where it begins

-- a history that ends before the masks of a batch that begins at h: nothing came, the seed, or the
-- first step too
abbrev pub IsHeadPart : Channel → Shape → ℕ → List Event → List Event → Type 0
IsHeadPart c s claim h h' = (h' ≡ h) ⊎ (h' ≡ h ++ words (masked_seed c.extension.degree s)) ⊎ (h' ≡ h ++ begun_events c.extension s claim)

-- the combination, where the batch begins at h
abbrev pub combination_of : Channel → Shape → Head → List Event → ℕ
combination_of c s b h = combination_at c.rules c.extension h s b

-- ---- a prover's batch

-- What a prover is asked for: what stays, the shape, where it stands before the seed, the masks and
-- the words of their commitment, and aux with one half.
pub record MaskedBatch : Type 0 where
  pub setting : Setting
  pub shape : Shape
  pub taken : ProverState
  pub masks : List (List ℕ)
  pub commitment : List ℕ
  pub half : ℕ
  pub aux : ℕ

-- what it puts before its rounds: the claim with aux, the commitment, and the masks' total
abbrev pub head_of : MaskedBatch → Head
head_of b = head (b.taken.claim +⟨ b.setting.ops ⟩ b.aux) b.commitment (masks_total b.setting.ops b.masks)

-- its combination
abbrev pub eps_of : MaskedBatch → ℕ
eps_of b = combination_of b.setting.channel b.shape (head_of b) b.taken.history

-- what stays while its rounds are played
abbrev pub masking_of : MaskedBatch → Masking
masking_of b = record { masks = b.masks; eps = eps_of b; half = b.half; aux = b.aux }

-- where they begin
abbrev pub start_of : MaskedBatch → ProverState
start_of b = record b.taken { history = rounds_from b.setting.channel.extension b.taken.history b.shape (head_of b) }

-- It was played whole, with the challenges rs: one round for each mask.
pub record PlaysMasked (b : MaskedBatch) (after : ProverState) (rs : List ℕ) : Type 0 where
  pub whole : length b.masks ≡ length rs
  pub played : IsMasked b.setting (masking_of b) (start_of b) after rs

-- ---- a batch whose head is given

-- A batch with what both sides have put before its rounds, and the history where it begins.
pub record HeadedBatch : Type 0 where
  pub channel : Channel
  pub shape : Shape
  pub given : Head
  pub begun : List Event

-- the history where its rounds begin
abbrev pub after_head : HeadedBatch → List Event
after_head b = rounds_from b.channel.extension b.begun b.shape b.given

-- where a replay of a claim stands after the head: the first target is eps times the claim and the
-- total of the masks
abbrev pub head_verifier_state : Ops → HeadedBatch → VerifierState
head_verifier_state o b =
    verifier_state (after_head b) (first_target o (combination_of b.channel b.shape b.given b.begun) b.given.claim b.given.mu)

-- ---- a batch that is simulated

-- Rounds of these wires, whatever the challenges are; each witness is the first.
abbrev pub AreSent : Channel → List Event → List (List ℕ) → List Round → Type 0
AreSent c h ws rounds =
    (messages_of rounds ≡ ws) × IsBuilt (λ rs m. slice_index_or ws (length rs) []) c h [] (length ws) rounds

-- Rounds of these wires were sent after the head, with the challenges rs, and h is the history
-- after them.
pub record IsSimulated (b : HeadedBatch) (ws : List (List ℕ)) (rounds : List Round) (rs : List ℕ) (h : List Event) : Type 0 where
  pub sent : AreSent b.channel (after_head b) ws rounds
  pub drawn : rs ≡ challenges b.channel.rules b.channel.extension b.channel.bits (after_head b) rounds
  pub history : h ≡ after_head b ++ rounds_events b.channel.extension b.channel.bits rounds

-- What was simulated is replayed, whatever the claim is: with its challenges, to its history.
abbrev pub SimulationsReplay : Type 0
SimulationsReplay =
    (o : Ops) (b : HeadedBatch) (ws : List (List ℕ)) (rounds : List Round) (rs : List ℕ) (h : List Event) →
    IsSimulated b ws rounds rs h →
    (target : ℕ) × IsReplayed (next_target o) b.channel (head_verifier_state o b) (verifier_state h target) rounds rs
