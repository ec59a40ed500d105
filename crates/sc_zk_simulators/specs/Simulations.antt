-- A batch that is simulated, and what that leaves.
use Rattle.std.specs.Prelude.{◌≡◌, ◌⊎◌, ℕ, List, map, Result, Ok, Err}
use Rattle.sc_definitions.specs.declared.events.Event.{Event}
use Rattle.sc_definitions.specs.Events.{Extension}
use Rattle.sc_definitions.specs.Transcript.{Round}
use Rattle.sc_definitions.specs.Channels.{empty_wire, with_rounds}
use Rattle.sc_challenger.specs.Parties.{Party}
use Rattle.sc_zk_definitions.specs.MaskedTranscripts.{head}
use Rattle.sc_zk_definitions.specs.MaskedBatches.{HeadedBatch, IsHeadPart, IsSimulated, after_head}
use Rattle.sc_transcript.specs.declared.error.SumcheckError.{SumcheckError}
use Rattle.sc_transcript.specs.declared.error.SumcheckError.TheVariants.{NoWitness, NoMemory}
use Rattle.sc_zk_transcript.specs.declared.shape.ZkSumcheckShape.{ZkSumcheckShape}
use Rattle.sc_zk_rounds.specs.declared.data.ZkSumcheckData.{ZkSumcheckData}
use Rattle.sc_zk_rounds.specs.Data.{Sent, sent_in}
use Rattle.sc_zk_rounds.specs.Heads.{headed_by}
use Rattle.sc_zk_simulators.specs.Drafts.{Draft}
use Rattle.sc_zk_simulators.specs.Sendings.{Sending, sending, IsSentInPart, LacksWitness}

-- A simulation that is asked for: what both sides put before the rounds, and the wires.
pub record Simulation : Type 0 where
  pub batch : HeadedBatch
  pub wires : List (List ℕ)

-- the simulation of a draft in a shape, under a claim, over a challenger's channel and from its history on
abbrev pub simulation_by : {K : Type 0} → Party → Extension → ℕ → ZkSumcheckShape → ℕ → Draft K → Simulation
simulation_by p E size shape claim d = record { batch = headed_by p E size shape (head claim d.words d.mu) p.history; wires = d.wires }

-- the sending of its rounds
abbrev pub rounds_of : Simulation → Sending
rounds_of s = sending s.batch.channel (after_head s.batch) s.wires

-- What a simulator answers, by numbers: what it has put on the wire, and the challenges.
pub record Answer : Type 0 where
  pub sent : Sent
  pub challenges : List ℕ

-- the numbers of an answer
abbrev pub answer_in : {F EF K : Type 0} → (F → ℕ) → (EF → ℕ) → ZkSumcheckData F EF × K × List EF → Answer
answer_in base number x = record { sent = sent_in base number x.0; challenges = map number x.2 }

-- It was simulated whole, and h is the history after it: the rounds of its wires are on the wire, each with the first witness.
pub record IsWhole (s : Simulation) (a : Answer) (h : List Event) : Type 0 where
  pub rounds : List Round
  pub simulated : IsSimulated s.batch s.wires rounds a.challenges h
  pub mu : a.sent.mu ≡ s.batch.given.mu
  pub wire : a.sent.wire ≡ with_rounds s.batch.channel.bits empty_wire rounds

-- Memory ran out before the masks, or after some of the rounds.
abbrev pub LacksMemory : Simulation → List Event → Type 0
LacksMemory s h = IsHeadPart s.batch.channel s.batch.shape s.batch.given.claim s.batch.begun h ⊎ IsSentInPart (rounds_of s) h

-- what a simulation leaves, by its answer
abbrev pub LeavesSimulated : {X : Type 0} → (X → Answer) → Simulation → Result X SumcheckError → List Event → Type 0
LeavesSimulated view s (Ok x) h = IsWhole s (view x) h
LeavesSimulated view s (Err (NoWitness i)) h = LacksWitness (rounds_of s) i h
LeavesSimulated view s (Err NoMemory) h = LacksMemory s h
LeavesSimulated view s (Err e) h = ⊥
