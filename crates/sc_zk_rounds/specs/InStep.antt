-- A batch under masks that is played on a copy of a challenger, and then replayed on the challenger itself.
use Rattle.std.specs.Prelude.{◌≡◌, ◌⊎◌, ℕ, ◌<◌, All, List, [], ◌++◌, length, map, Result, Ok, Err}
use Rattle.sc_definitions.specs.declared.events.Event.{Event}
use Rattle.sc_definitions.specs.Ring.{◌+⟨◌⟩◌, ◌*⟨◌⟩◌}
use Rattle.sc_definitions.specs.Transcript.{Round, rounds_events}
use Rattle.sc_definitions.specs.Channels.{Wire, IsBuilt}
use Rattle.sc_definitions.specs.ProverStates.{ProverState}
use Rattle.sc_zk_definitions.specs.Masks.{masks_at, masks_total, aux_after}
use Rattle.sc_zk_definitions.specs.MaskedRuns.{IsMaskedWithoutWitness, masked_in}
use Rattle.sc_zk_definitions.specs.MaskedBatches.{MaskedBatch, PlaysMasked, IsHeadPart, head_of, eps_of, masking_of, start_of}
use Rattle.sc_transcript.specs.declared.error.SumcheckError.{SumcheckError}
use Rattle.sc_transcript.specs.declared.error.SumcheckError.TheVariants.{NoWitness, NoMemory}
use Rattle.sc_zk_rounds.specs.declared.in_step.MaskedRun.{MaskedRun}
use Rattle.sc_zk_rounds.specs.Data.{masked_wire_in}

-- The figures of masked rounds: the masks' total, what was put on the wire, the challenges, the combination, what a replay leaves, and its three parts: the
-- plain residual and what is left of aux, both times the combination, and the masks at the challenges.
pub record MaskedFigures : Type 0 where
  pub mu : ℕ
  pub wire : Wire
  pub challenges : List ℕ
  pub eps : ℕ
  pub residual : ℕ
  pub scaled : ℕ
  pub carried : ℕ
  pub mask_residual : ℕ

-- those of a run
abbrev pub run_in : {F EF : Type 0} → (F → ℕ) → (EF → ℕ) → MaskedRun F EF → MaskedFigures
run_in base number r = record {
  mu = number r.zk_data.mu_tilde;
  wire = masked_wire_in base number r.zk_data;
  challenges = map number r.randomness;
  eps = number r.eps;
  residual = number r.claimed_residual;
  scaled = number r.scaled;
  carried = number r.carried;
  mask_residual = number r.mask_residual;
}

-- The batch was played whole and replayed, to one history and with the same challenges, and these are its figures.
pub record StepsThrough (b : MaskedBatch) (h : List Event) (f : MaskedFigures) : Type 0 where
  pub after : ProverState
  pub played : PlaysMasked b after f.challenges
  pub mu : f.mu ≡ masks_total b.setting.ops b.masks
  pub wire : f.wire ≡ after.wire
  pub eps : f.eps ≡ eps_of b
  pub scaled : f.scaled ≡ eps_of b *⟨ b.setting.ops ⟩ after.claim
  pub carried : f.carried ≡ eps_of b *⟨ b.setting.ops ⟩ aux_after b.setting.ops b.half b.aux (length f.challenges)
  pub masks : f.mask_residual ≡ masks_at b.setting.ops b.masks f.challenges
  pub residual : f.residual ≡ (f.scaled +⟨ b.setting.ops ⟩ f.carried) +⟨ b.setting.ops ⟩ f.mask_residual
  pub history : h ≡ after.history

-- No witness was found in round i, after the rounds before it, whose witnesses are numbers of elements.
pub record LacksWitness (b : MaskedBatch) (i : ℕ) : Type 0 where
  pub below : i < length b.masks
  pub after : ProverState
  pub played : IsMaskedWithoutWitness b.setting (masking_of b) (start_of b) after
  pub count : length played.rs ≡ i
  pub low : All (λ w. w < b.setting.channel.base_size) after.wire.witnesses

-- The history ends after some of the rounds of a batch, from the first on.
pub record EndsInRounds (b : MaskedBatch) (h : List Event) : Type 0 where
  pub rounds : List Round
  pub built : IsBuilt (masked_in b.setting (start_of b) (masking_of b)) b.setting.channel (start_of b).history [] (start_of b).variables rounds
  pub history : h ≡ (start_of b).history ++ rounds_events b.setting.channel.extension b.setting.channel.bits rounds

-- Memory ran out before the masks, or after some of the rounds.
abbrev pub LacksMemory : MaskedBatch → List Event → Type 0
LacksMemory b h = IsHeadPart b.setting.channel b.shape (head_of b).claim b.taken.history h ⊎ EndsInRounds b h

-- what such a run leaves, by its answer
abbrev pub StaysInStep : {X : Type 0} → (X → MaskedFigures) → MaskedBatch → Result X SumcheckError → List Event → Type 0
StaysInStep view b (Ok x) h = StepsThrough b h (view x)
StaysInStep view b (Err (NoWitness i)) h = LacksWitness b i × (h ≡ b.taken.history)
StaysInStep view b (Err NoMemory) h = LacksMemory b h
StaysInStep view b (Err e) h = ⊥
