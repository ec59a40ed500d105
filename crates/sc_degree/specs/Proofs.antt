-- A proof of rounds of any degree, and what its replay leaves.
use Rattle.std.specs.Prelude.{◌≡◌, ℕ, ◌<◌, List, ◌++◌, map, Result, Ok, Err}
use Rattle.sc_definitions.specs.declared.events.Event.{Event}
use Rattle.sc_definitions.specs.Ring.{Ops}
use Rattle.sc_definitions.specs.Interpolation.{next_through}
use Rattle.sc_definitions.specs.Channels.{Channel, Wire, verifier_state}
use Rattle.sc_transcript.specs.Replayed.{Replay, replay_of, LeavesReplay}
use Rattle.sc_degree.specs.declared.error.GenericDegreeError.{GenericDegreeError}
use Rattle.sc_degree.specs.declared.error.GenericDegreeError.TheVariants.{InvalidDegree}
use Rattle.sc_degree.specs.declared.proof.GenericDegreeProof.{GenericDegreeProof}
use Rattle.sc_degree.specs.declared.transcript.GenericDegreeShape.{GenericDegreeShape}
use Rattle.sc_degree.specs.Causes.{generic_cause}
use Rattle.sc_degree.specs.Shapes.{prelude_of, generic_batch}

-- what a proof has put on the wire, its claimed sum aside
abbrev pub proof_wire : {F EF : Type 0} → (F → ℕ) → (EF → ℕ) → GenericDegreeProof F EF → Wire
proof_wire base number p = record {
  messages = map (λ values. map number values.items) p.round_polys.items;
  witnesses = map base p.pow_witnesses.items;
}

-- the replay, in a shape, of a claimed sum and of what came on a wire, over a ring and a channel, from a history on: it begins after the seed and the
-- claimed sum, and each round leaves the value of its polynomial at the challenge
abbrev pub generic_replay : Ops → Channel → GenericDegreeShape → ℕ → Wire → List Event → Replay
generic_replay o c shape claimed came h =
    replay_of (next_through o) c (generic_batch shape) (verifier_state (h ++ prelude_of c.extension shape claimed) claimed) came

-- What `verify` leaves of a history, by its result: the challenges and what the rounds leave of the claim; or why there is none.
abbrev pub LeavesVerify : {X : Type 0} → (X → ℕ) → Replay → List Event → Result (List X × X) GenericDegreeError → List Event → Type 0
LeavesVerify number p h (Ok x) h' = (0 < p.shape.width) × LeavesReplay (h' ≡ h) p (Ok (map number x.0)) (verifier_state h' (number x.1))
LeavesVerify number p h (Err (InvalidDegree d)) h' = (d ≡ 0) × (p.shape.width ≡ 0) × (h' ≡ h)
LeavesVerify number p h (Err e) h' =
    (0 < p.shape.width) × ((claim : ℕ) × LeavesReplay (h' ≡ h) p (Err (generic_cause p.shape.pow_bits e)) (verifier_state h' claim))
