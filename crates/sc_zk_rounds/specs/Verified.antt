-- The replay of masked rounds, whatever their batch begins with, and what it leaves.
use Rattle.std.specs.Prelude.{◌≡◌, ◌⊎◌, ℕ, List, length, map, Result, Ok, Err, Some}
use Rattle.sc_definitions.specs.declared.events.Event.{Event}
use Rattle.sc_definitions.specs.Ring.{Ops}
use Rattle.sc_definitions.specs.Events.{Extension}
use Rattle.sc_definitions.specs.Channels.{Channel, Wire, VerifierState, verifier_state}
use Rattle.sc_challenger.specs.Parties.{Party, channel_by}
use Rattle.sc_zk_definitions.specs.Masks.{next_target, first_target}
use Rattle.sc_zk_definitions.specs.MaskedTranscripts.{Head, rounds_from}
use Rattle.sc_zk_definitions.specs.MaskedBatches.{IsHeadPart, combination_of}
use Rattle.sc_transcript.specs.declared.error.SumcheckError.{SumcheckError}
use Rattle.sc_transcript.specs.declared.error.SumcheckError.TheVariants as errors
use Rattle.sc_transcript.specs.declared.error.RoundError.TheVariants as rounds
use Rattle.sc_transcript.specs.Walks.{LeavesWalk}
use Rattle.sc_transcript.specs.Replayed.{Replay, replay_of, AreCounted, AreMiscounted}
use Rattle.sc_zk_transcript.specs.declared.shape.ZkSumcheckShape.{ZkSumcheckShape}
use Rattle.sc_zk_transcript.specs.Shapes.{fixed_by, masked_batch, IsFit, IsUnfit}
use Rattle.sc_zk_rounds.specs.declared.data.ZkVerifierHandoff.{ZkVerifierHandoff}

-- ---- whether rounds can be replayed

-- What came on a wire can be replayed in a shape: the shape is fit, and the counts are right.
pub record CanReplay (base : Ops) (shape : ZkSumcheckShape) (came : Wire) : Type 0 where
  pub fit : IsFit base shape
  pub counted : AreCounted (masked_batch shape) (length came.messages) (length came.witnesses)

-- the first reason why it cannot
abbrev pub CannotReplay : Ops → ZkSumcheckShape → Wire → SumcheckError → Type 0
CannotReplay base shape came (errors.RoundCountMismatch n m) =
    IsFit base shape × AreMiscounted (masked_batch shape) (length came.messages) (length came.witnesses) (rounds.RoundCount n m)
CannotReplay base shape came (errors.PowWitnessCountMismatch n m) =
    IsFit base shape × AreMiscounted (masked_batch shape) (length came.messages) (length came.witnesses) (rounds.WitnessCount n m)
CannotReplay base shape came e = IsUnfit base shape e

-- ---- a replay

-- A replay that is asked for: the ring of base elements and that of the claim, the channel, the shape, what stands before the rounds, the history where the
-- batch begins, and what came on the wire.
pub record MaskedReplay : Type 0 where
  pub base : Ops
  pub ops : Ops
  pub channel : Channel
  pub shape : ZkSumcheckShape
  pub head : Head
  pub begun : List Event
  pub came : Wire

-- the replay of these
abbrev pub claim_asked : Ops → Ops → Channel → ZkSumcheckShape → Head → List Event → Wire → MaskedReplay
claim_asked base o c shape head begun came = record { base = base; ops = o; channel = c; shape = shape; head = head; begun = begun; came = came }

-- a challenger as it was at a history
abbrev pub at_history : List Event → Party → Party
at_history h p = record p { history = h }

-- the replay under a challenger, where it is, over an extension of a base field
abbrev pub claim_by : Party → Ops → Ops → Extension → ZkSumcheckShape → Head → Wire → MaskedReplay
claim_by p base o E shape head came = claim_asked base o (channel_by p E base.size shape.pow_bits) shape head p.history came

-- its combination
abbrev pub eps_in : MaskedReplay → ℕ
eps_in p = combination_of p.channel (fixed_by p.shape) p.head p.begun

-- where it stands after the head: the first target is the combination times the claim, and the masks' total
abbrev pub begins_at : MaskedReplay → VerifierState
begins_at p = verifier_state (rounds_from p.channel.extension p.begun (fixed_by p.shape) p.head) (first_target p.ops (eps_in p) p.head.claim p.head.mu)

-- the replay of its rounds from there: each makes the next target of its wire
abbrev pub rounds_of : MaskedReplay → Replay
rounds_of p = replay_of (next_target p.ops) p.channel (masked_batch p.shape) (begins_at p) p.came

-- what an answer tells: the challenges, the residual and the combination
pub record Told : Type 0 where
  pub randomness : List ℕ
  pub residual : ℕ
  pub eps : ℕ

-- what is handed on tells, by its numbers
abbrev pub told_by : {EF : Type 0} → (EF → ℕ) → ZkVerifierHandoff EF → Told
told_by number h = record { randomness = map number h.randomness; residual = number h.claimed_residual; eps = number h.eps }

-- All rounds were taken, and the answer tells of them.
pub record IsVerified (p : MaskedReplay) (t : Told) (h : List Event) : Type 0 where
  pub can : CanReplay p.base p.shape p.came
  pub walked : LeavesWalk (rounds_of p).walk (Ok t.randomness) (verifier_state h t.residual)
  pub eps : t.eps ≡ eps_in p

-- Why they are not, and the history that this leaves: what cannot be replayed leaves it as it was; a wire that is too long or too short leaves it after the
-- rounds before it, and a witness that fails with its test; the want of memory before the rounds or after some of them.
abbrev pub IsRefuted : MaskedReplay → SumcheckError → List Event → Type 0
IsRefuted p (errors.WireSizeMismatch i n m) h =
    CanReplay p.base p.shape p.came × ((t : ℕ) × LeavesWalk (rounds_of p).walk (Err (Some (rounds.WrongWidth i n m))) (verifier_state h t))
IsRefuted p (errors.InvalidPowWitness i bits) h =
    CanReplay p.base p.shape p.came × ((t : ℕ) × LeavesWalk (rounds_of p).walk (Err (Some (rounds.InvalidWitness i bits))) (verifier_state h t))
IsRefuted p errors.NoMemory h =
    CanReplay p.base p.shape p.came
    × (IsHeadPart p.channel (fixed_by p.shape) p.head.claim p.begun h ⊎ ((t : ℕ) × LeavesWalk (rounds_of p).walk (Err (Some rounds.NoMemory)) (verifier_state h t)))
IsRefuted p e h = CannotReplay p.base p.shape p.came e × (h ≡ p.begun)

-- what a replay leaves, by its answer
abbrev pub LeavesMaskedReplay : {X : Type 0} → (X → Told) → MaskedReplay → Result X SumcheckError → List Event → Type 0
LeavesMaskedReplay told p (Ok x) h = IsVerified p (told x) h
LeavesMaskedReplay told p (Err e) h = IsRefuted p e h
