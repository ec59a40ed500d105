-- The data of a proof, by the numbers of its elements.
use Rattle.std.specs.Prelude.{ℕ, ◌-◌, List, [], ◌∷◌, map, min, vec_len, vec_capacity}
use Rattle.sc_definitions.specs.Transcript.{Round}
use Rattle.sc_definitions.specs.Replays.{given_rounds}
use Rattle.sc_definitions.specs.Channels.{Channel, VerifierState, Wire}
use Rattle.sc_definitions.specs.Ring.{Ops}
use Rattle.sc_definitions.specs.Rounds.{next_claim}
use Rattle.sc_table.specs.Strategy.{basis_of}
use Rattle.sc_transcript.specs.declared.transcript.SumcheckShape.{SumcheckShape}
use Rattle.sc_transcript.specs.Shapes.{batch_of, seeded}
use Rattle.sc_transcript.specs.Replayed.{Replay, replay_of}
pub use Rattle.sc_definitions.specs.Channels.{witnesses_of}
pub use Rattle.sc_transcript.specs.Rounds.{witness_count}
use Rattle.sc_table.specs.declared.strategy.RoundMessage.{RoundMessage}
use Rattle.sc_transcript.specs.declared.data.SumcheckData.{SumcheckData}

-- the two values of a message
abbrev pub pair_of : {EF : Type 0} → (EF → ℕ) → RoundMessage EF → List ℕ
pair_of number m = number m.c_a ∷ number m.c_inf ∷ []

-- the messages of data
abbrev pub messages_in : {F EF : Type 0} → (EF → ℕ) → SumcheckData F EF → List (List ℕ)
messages_in number d = map (pair_of number) d.polynomial_evaluations.items

-- its witnesses
abbrev pub witnesses_in : {F EF : Type 0} → (F → ℕ) → SumcheckData F EF → List ℕ
witnesses_in number d = map number d.pow_witnesses.items

-- what it has put on the wire
abbrev pub wire_in : {F EF : Type 0} → (F → ℕ) → (EF → ℕ) → SumcheckData F EF → Wire
wire_in base number d = record { messages = messages_in number d; witnesses = witnesses_in base d }

-- its rounds; the witness of a round is 0 where none came
abbrev pub rounds_of_data : {F EF : Type 0} → (F → ℕ) → (EF → ℕ) → SumcheckData F EF → List Round
rounds_of_data base number d = given_rounds (messages_in number d) (witnesses_in base d)

-- how many more rounds it takes without memory
abbrev pub spare_in : {F EF : Type 0} → SumcheckData F EF → ℕ
spare_in d =
    min (vec_capacity d.polynomial_evaluations - vec_len d.polynomial_evaluations) (vec_capacity d.pow_witnesses - vec_len d.pow_witnesses)

-- the replay, in a shape, of what came on a wire, over a ring, a channel and an extension of a degree, from a verifier state on: it begins after the seed, and each
-- round folds the claim by the basis
abbrev pub pair_replay : Ops → Channel → ℕ → SumcheckShape → Wire → VerifierState → Replay
pair_replay o c degree shape came at =
    replay_of (next_claim (basis_of shape.basis) o) c (batch_of shape) (seeded degree shape at.history at.claim) came
