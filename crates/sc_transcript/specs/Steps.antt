-- Laws of batches and their replays, in every setting: what a batch has put on an empty wire is replayed.
use Rattle.std.specs.Prelude.{◌≡◌, ◌⊎◌, ℕ, List, Result, Ok, Err}
use Rattle.sc_definitions.specs.declared.events.Event.{Event}
use Rattle.sc_definitions.specs.Rounds.{next_claim}
use Rattle.sc_definitions.specs.Transcript.{Round}
use Rattle.sc_definitions.specs.Replays.{given_rounds}
use Rattle.sc_definitions.specs.Channels.{Wire, empty_wire, VerifierState, verifier_state, IsReplayed, IsReplayedInPart, FailsAt}
use Rattle.sc_definitions.specs.ProverStates.{Setting, ProverState, verifier_state_of, IsPlayed}
use Rattle.sc_transcript.specs.declared.error.SumcheckError.{SumcheckError}
use Rattle.sc_transcript.specs.declared.error.SumcheckError.TheVariants.{NoMemory}
use Rattle.sc_transcript.specs.Batches.{Batch, PlaysWhole, BreaksOff}

-- the rounds of a wire
abbrev pub rounds_on : Wire → List Round
rounds_on w = given_rounds w.messages w.witnesses

-- They can be replayed from where the batch began, with its challenges, to where it ended.
abbrev pub BatchesReplay : Type 0
BatchesReplay =
    (s : Setting) (before after : ProverState) (rs : List ℕ) → before.wire ≡ empty_wire → IsPlayed s before after rs →
    IsReplayed (next_claim s.basis s.ops) s.channel (verifier_state_of before) (verifier_state_of after) (rounds_on after.wire) rs

-- Every replay from there has its challenges, and ends where it ended.
abbrev pub ReplaysAgree : Type 0
ReplaysAgree =
    (s : Setting) (before after : ProverState) (rs : List ℕ) → before.wire ≡ empty_wire → IsPlayed s before after rs →
    (end : VerifierState) (out : List ℕ) → IsReplayed (next_claim s.basis s.ops) s.channel (verifier_state_of before) end (rounds_on after.wire) out →
    (out ≡ rs) × (end ≡ verifier_state_of after)

-- No witness of it fails in a replay from there.
abbrev pub NoneIsInvalid : Type 0
NoneIsInvalid =
    (s : Setting) (before after : ProverState) (rs : List ℕ) → before.wire ≡ empty_wire → IsPlayed s before after rs →
    (i : ℕ) (end : VerifierState) → FailsAt (next_claim s.basis s.ops) s.channel (verifier_state_of before) end (rounds_on after.wire) i → ⊥

-- ---- a prover and a verifier

-- They are in step: a batch was played, and its replay has the same challenges and ends where it ends.
pub record IsInStep (b : Batch) (after : ProverState) (rs out : List ℕ) (end : VerifierState) : Type 0 where
  pub played : PlaysWhole b after rs
  pub challenges : out ≡ rs
  pub ends : end ≡ verifier_state_of after

-- Some of the rounds that a batch has put on an empty wire were replayed, from the first on: this is the history that they leave.
pub record ReplaysInPart (s : Setting) (start : ProverState) (w : Wire) (h : List Event) : Type 0 where
  pub claim : ℕ
  pub part : IsReplayedInPart (next_claim s.basis s.ops) s.channel (verifier_state_of start) (verifier_state h claim) (rounds_on w)

-- A batch was played whole, and its replay wanted memory: the verifier's history h is as it was, or some of the rounds were replayed.
pub record IsReplayBroken (b : Batch) (after : ProverState) (h h' : List Event) : Type 0 where
  pub rs : List ℕ
  pub played : PlaysWhole b after rs
  pub left : (h' ≡ h) ⊎ ReplaysInPart b.setting b.start after.wire h'

-- Why they are not, and what that leaves: the prover stopped, and the verifier's history h is as it was; or, for want of memory, the replay of the whole
-- batch was broken off.
abbrev pub IsOutOfStep : Batch → ProverState → List Event → List Event → SumcheckError → Type 0
IsOutOfStep b after h h' NoMemory = (BreaksOff b after NoMemory × (h' ≡ h)) ⊎ IsReplayBroken b after h h'
IsOutOfStep b after h h' e = BreaksOff b after e × (h' ≡ h)

-- what both leave, by the result: the challenges of both and the claim that the verifier leaves, or why there are none
abbrev pub LeavesStep : {X Y : Type 0} → (X → List ℕ) → (Y → ℕ) → Batch → ProverState → List Event → List Event → Result (X × X × Y) SumcheckError → Type 0
LeavesStep challenges number b after h h' (Ok x) = IsInStep b after (challenges x.0) (challenges x.1) (verifier_state h' (number x.2))
LeavesStep challenges number b after h h' (Err e) = IsOutOfStep b after h h' e
