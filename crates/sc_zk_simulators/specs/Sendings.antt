-- Rounds that are sent, whatever the challenges are.
use Rattle.std.specs.Prelude.{◌≡◌, ℕ, ◌<◌, List, [], ◌++◌, length, slice_index_or, Result, Ok, Err}
use Rattle.sc_definitions.specs.declared.events.Event.{Event}
use Rattle.sc_definitions.specs.Transcript.{Round, rounds_events, challenges}
use Rattle.sc_definitions.specs.Channels.{Channel, Wire, empty_wire, with_rounds, NoWitnessFound, IsBuilt}
use Rattle.sc_transcript.specs.declared.error.SumcheckError.{SumcheckError}
use Rattle.sc_transcript.specs.declared.error.SumcheckError.TheVariants.{NoWitness, NoMemory}

-- Wires to send over a channel from a history on.
pub record Sending : Type 0 where
  pub channel : Channel
  pub start : List Event
  pub wires : List (List ℕ)

-- the record of these
abbrev pub sending : Channel → List Event → List (List ℕ) → Sending
sending c h ws = record { channel = c; start = h; wires = ws }

-- the wire of the round after the challenges rs
abbrev pub wire_at : List (List ℕ) → List ℕ → ℕ → List ℕ
wire_at ws rs m = slice_index_or ws (length rs) []

-- Some of the wires were sent, from the first on, each with the first witness, and h is the history after them.
pub record IsSentInPart (s : Sending) (h : List Event) : Type 0 where
  pub rounds : List Round
  pub built : IsBuilt (wire_at s.wires) s.channel s.start [] (length s.wires) rounds
  pub history : h ≡ s.start ++ rounds_events s.channel.extension s.channel.bits rounds

-- They were, with the challenges rs, and this is on the wire.
pub record IsUnderWay (s : Sending) (rs : List ℕ) (sent : Wire) (h : List Event) : Type 0 where
  pub part : IsSentInPart s h
  pub drawn : rs ≡ challenges s.channel.rules s.channel.extension s.channel.bits s.start part.rounds
  pub wire : sent ≡ with_rounds s.channel.bits empty_wire part.rounds

-- The wires before wire i were, and no witness was found for that one, with which the history ends.
pub record LacksWitness (s : Sending) (i : ℕ) (h : List Event) : Type 0 where
  pub low : i < length s.wires
  pub last : List Event
  pub part : IsSentInPart s last
  pub count : length part.rounds ≡ i
  pub none : NoWitnessFound s.channel last (slice_index_or s.wires i []) h

-- What the sending of all wires leaves, by its answer: they are on the wire, with the challenges rs; no witness was found for one of them; or memory ran out
-- after some.
abbrev pub SendsAll : {X : Type 0} → Sending → List ℕ → Wire → List Event → Result X SumcheckError → Type 0
SendsAll s rs sent h (Ok x) = IsUnderWay s rs sent h × (sent.messages ≡ s.wires)
SendsAll s rs sent h (Err (NoWitness i)) = LacksWitness s i h
SendsAll s rs sent h (Err NoMemory) = IsSentInPart s h
SendsAll s rs sent h (Err e) = ⊥
