-- A batch under masks that is asked of a prover, and what it leaves and hands on.
use Rattle.std.specs.Prelude.{◌≡◌, ◌⊎◌, ℕ, ◌<◌, List, length, Option, None, Result, Ok, Err}
use Rattle.sc_definitions.specs.declared.events.Event.{Event}
use Rattle.sc_definitions.specs.Ring.{Ops}
use Rattle.sc_definitions.specs.Events.{Extension}
use Rattle.sc_definitions.specs.Channels.{Channel, empty_wire}
use Rattle.sc_definitions.specs.ProverStates.{Setting, ProverState}
use Rattle.sc_definitions.specs.ProverViews.{ProverView, with_scaled, setting_at, prover_state_at}
use Rattle.sc_challenger.specs.Parties.{Party, channel_by}
use Rattle.sc_zk_definitions.specs.declared.prelude.ZkPrelude.{ZkPrelude}
use Rattle.sc_zk_definitions.specs.declared.prelude.ZkPrelude.TheVariants.{InheritedClaim}
use Rattle.sc_zk_definitions.specs.Explained.{half_of}
use Rattle.sc_zk_definitions.specs.MaskedTranscripts.{Shape}
use Rattle.sc_zk_definitions.specs.MaskedRuns.{IsMaskedInPart, IsMaskedWithoutWitness}
use Rattle.sc_zk_definitions.specs.MaskedBatches.{MaskedBatch, PlaysMasked, IsHeadPart, head_of, eps_of, masking_of, start_of}
use Rattle.sc_transcript.specs.declared.error.SumcheckError.{SumcheckError}
use Rattle.sc_transcript.specs.declared.error.SumcheckError.TheVariants.{NoWitness, NoMemory}
use Rattle.sc_zk_rounds.specs.Data.{Sent}
use Rattle.sc_zk_rounds.specs.Heads.{begun_at}

-- ---- what is asked

-- Masks to play a batch under: how long each is, the masks, the words of the commitment to them, and aux.
pub record AskedMasks : Type 0 where
  pub mask_length : ℕ
  pub masks : List (List ℕ)
  pub words : List ℕ
  pub aux : ℕ

-- the record of these
abbrev pub asked_masks : ℕ → List (List ℕ) → List ℕ → ℕ → AskedMasks
asked_masks l masks words aux = record { mask_length = l; masks = masks; words = words; aux = aux }

-- The batch of a prelude, in this setting, from a prover state on: a round for each mask.
abbrev pub batch_from : ZkPrelude → Setting → ProverState → AskedMasks → MaskedBatch
batch_from prelude s t m = record {
  setting = s;
  shape = record { prelude = prelude; rounds = length m.masks; mask_length = m.mask_length; bits = s.channel.bits };
  taken = t;
  masks = m.masks;
  commitment = m.words;
  half = half_of s.ops;
  aux = m.aux;
}

-- the batch under a claim that is handed on
abbrev pub batch_asked : Setting → ProverState → AskedMasks → MaskedBatch
batch_asked s t m = batch_from InheritedClaim s t m

-- the same of a prover that shows this, over a channel, from a history on, with nothing on the wire
abbrev pub batch_over : Channel → Ops → ProverView → List Event → AskedMasks → MaskedBatch
batch_over c o s h m = batch_asked (setting_at c o s) (prover_state_at s h empty_wire) m

-- the same under a challenger, over an extension of a field of so many elements, at a difficulty
abbrev pub batch_by : Party → Extension → ℕ → ℕ → Ops → ProverView → AskedMasks → MaskedBatch
batch_by p E size bits o s m = batch_over (channel_by p E size bits) o s p.history m

-- ---- what it leaves

-- The batch was broken off before its masks: the history ends there, and all else is as it was.
pub record StopsInHead (b : MaskedBatch) (after : ProverState) : Type 0 where
  pub history : IsHeadPart b.setting.channel b.shape (head_of b).claim b.taken.history after.history
  pub kept : after ≡ record b.taken { history = after.history }

-- No witness was found in round i, after the rounds before it.
pub record FindsNoWitness (b : MaskedBatch) (after : ProverState) (i : ℕ) : Type 0 where
  pub low : i < length b.masks
  pub played : IsMaskedWithoutWitness b.setting (masking_of b) (start_of b) after
  pub count : length played.rs ≡ i

-- Why a batch is not played whole, and what that leaves: memory ran out before its masks or after some of its rounds, or no witness was found.
abbrev pub BreaksOff : MaskedBatch → ProverState → SumcheckError → Type 0
BreaksOff b after NoMemory = StopsInHead b after ⊎ IsMaskedInPart b.setting (masking_of b) (start_of b) after
BreaksOff b after (NoWitness i) = FindsNoWitness b after i
BreaksOff b after e = ⊥

-- What the head and the rounds of a batch leave, before anything is scaled, by their answer, which is the combination: the rounds were played with the
-- challenges rs, or the batch is broken off.
abbrev pub PlaysBatch : {X : Type 0} → (X → ℕ) → MaskedBatch → ProverState → List ℕ → Result X SumcheckError → Type 0
PlaysBatch number b after rs (Ok x) = PlaysMasked b after rs × (number x ≡ eps_of b)
PlaysBatch number b after rs (Err e) = BreaksOff b after e

-- The same of a batch of a shape whose seed and first step stand in the history already: from wherever it began.
abbrev pub PlaysBegun : {X : Type 0} → (X → ℕ) → Shape → MaskedBatch → ProverState → List ℕ → Result X SumcheckError → Type 0
PlaysBegun number s b after rs result = (h : List Event) → b.taken.history ≡ begun_at b.setting.channel.extension h s (head_of b).claim →
    PlaysBatch number (record b { taken = record b.taken { history = h } }) after rs result

-- ---- what it hands on

-- What is handed on, by numbers: what the residual prover shows, the challenge that it holds, if it holds one, the challenges of the rounds, and the
-- combination.
pub record Handed : Type 0 where
  pub shown : ProverView
  pub held : Option ℕ
  pub randomness : List ℕ
  pub eps : ℕ

-- what a prover state shows
abbrev pub shown_from : Setting → ProverState → ProverView
shown_from s t = record { basis = s.basis; order = s.order; variables = t.variables; evals = t.evals; weights = t.weights; claim = t.claim }

-- The batch was played whole; handed on are the tables after it, scaled by the combination, with the claim, and no challenge is held.
pub record HandsOnBy (scaled : Ops → ProverView → ℕ → ProverView) (b : MaskedBatch) (after : ProverState) (h : Handed) : Type 0 where
  pub played : PlaysMasked b after h.randomness
  pub eps : h.eps ≡ eps_of b
  pub shown : h.shown ≡ scaled b.setting.ops (shown_from b.setting after) (eps_of b)
  pub settled : h.held ≡ None

-- the same, with the weights and the claim times the combination
abbrev pub HandsOn : MaskedBatch → ProverState → Handed → Type 0
HandsOn b after h = HandsOnBy with_scaled b after h

-- what a masked batch leaves, by its answer
abbrev pub LeavesMaskedBy : {X : Type 0} → (Ops → ProverView → ℕ → ProverView) → (X → Handed) → MaskedBatch → ProverState → Result X SumcheckError → Type 0
LeavesMaskedBy scaled handed b after (Ok x) = HandsOnBy scaled b after (handed x)
LeavesMaskedBy scaled handed b after (Err e) = BreaksOff b after e

-- the masks' total was sent where there is an answer
abbrev pub TotalIsSent : {X : Type 0} → MaskedBatch → Sent → Result X SumcheckError → Type 0
TotalIsSent b sent (Ok x) = sent.mu ≡ (head_of b).mu
TotalIsSent b sent (Err e) = Unit {0}

-- How a batch ends whose prover is given up: at a prover state with this history and this on the wire.
pub record EndsMaskedBy {X : Type 0} (scaled : Ops → ProverView → ℕ → ProverView) (handed : X → Handed) (b : MaskedBatch) (h : List Event) (sent : Sent) (result : Result X SumcheckError) : Type 0 where
  pub after : ProverState
  pub left : LeavesMaskedBy scaled handed b after result
  pub history : h ≡ after.history
  pub wire : sent.wire ≡ after.wire
  pub total : TotalIsSent b sent result

-- the same, with the weights and the claim times the combination
abbrev pub EndsMasked : {X : Type 0} → (X → Handed) → MaskedBatch → List Event → Sent → Result X SumcheckError → Type 0
EndsMasked handed b h sent result = EndsMaskedBy with_scaled handed b h sent result
