-- The rounds of one layer on a transcript: where they begin, and what they leave.
use Rattle.std.specs.Prelude.{◌≡◌, ℕ, List, [], ◌∷◌, ◌++◌, map, take, replicate, Result, Ok, Err}
use Rattle.sc_definitions.specs.declared.events.Event.{Event}
use Rattle.sc_definitions.specs.declared.events.Event.TheVariants.{Draw}
use Rattle.sc_definitions.specs.Ring.{Ops}
use Rattle.sc_definitions.specs.Events.{Extension, extension_draw}
use Rattle.sc_challenger.specs.Parties.{Party, channel_by}
use Rattle.sc_definitions.specs.Transcript.{sent, rounds_events, challenges, messages_of}
use Rattle.sc_definitions.specs.Rounds.{claim_along}
use Rattle.sc_definitions.specs.Replays.{given_rounds, AllPass}
use Rattle.sc_definitions.specs.Channels.{Channel, Wire}
use Rattle.sc_definitions.specs.Interpolation.{next_through}
use Rattle.sc_transcript.specs.Walks.{AreWide}
use Rattle.sc_transcript.specs.Replayed.{Replay, IsCounted}
use Rattle.sc_degree.specs.declared.error.GenericDegreeError.{GenericDegreeError}
use Rattle.sc_degree.specs.declared.error.GenericDegreeError.TheVariants.{NoMemory}
use Rattle.sc_degree.specs.Shapes.{generic_shape}
use Rattle.sc_degree.specs.Proofs.{generic_replay, LeavesVerify}
use Rattle.sc_circuit_definitions.specs.CircuitPlays.{SentLayer, layer_prelude}
use Rattle.sc_circuit.specs.declared.proof.LayerProof.{LayerProof}
use Rattle.sc_circuit.specs.declared.replay.ReplayedLayer.{ReplayedLayer}

-- ---- what comes

-- what came for a layer: its rounds on the wire, and its two values
pub record GivenLayer : Type 0 where
  pub wire : Wire
  pub left : ℕ
  pub right : ℕ

abbrev pub layer_in : {F EF : Type 0} → (F → ℕ) → (EF → ℕ) → LayerProof F EF → GivenLayer
layer_in base number l = record {
  wire = record { messages = map (λ values. map number values.items) l.round_polys.items; witnesses = map base l.pow_witnesses.items };
  left = number l.left;
  right = number l.right;
}

-- what is played of it
abbrev pub sent_of : GivenLayer → SentLayer
sent_of g = record { rounds = given_rounds g.wire.messages g.wire.witnesses; left = g.left; right = g.right }

-- ---- where the rounds of a layer begin

-- so many rounds over a ring and a channel, under a claim, from a history on
pub record LayerRun : Type 0 where
  pub ops : Ops
  pub channel : Channel
  pub rounds : ℕ
  pub claim : ℕ
  pub history : List Event

-- those of this challenger, over a channel of its rules, from where it stands
abbrev pub run_by : Ops → Party → Extension → ℕ → ℕ → ℕ → ℕ → LayerRun
run_by o p E size bits rounds claim =
    record { ops = o; channel = channel_by p E size bits; rounds = rounds; claim = claim; history = p.history }

-- the history before the first round
abbrev pub run_begun : LayerRun → List Event
run_begun r = r.history ++ layer_prelude r.channel.extension r.channel.bits r.rounds r.claim

-- the challenges of rounds, and what they leave of the claim
abbrev pub run_challenges : LayerRun → SentLayer → List ℕ
run_challenges r c = challenges r.channel.rules r.channel.extension r.channel.bits (run_begun r) c.rounds

abbrev pub run_residual : LayerRun → SentLayer → ℕ
run_residual r c = claim_along (next_through r.ops) r.claim (messages_of c.rounds) (run_challenges r c)

-- the history after the rounds, and after the two values, and the challenge that merges these
abbrev pub run_played : LayerRun → SentLayer → List Event
run_played r c = run_begun r ++ rounds_events r.channel.extension r.channel.bits c.rounds

abbrev pub run_values : LayerRun → SentLayer → List Event
run_values r c = run_played r c ++ sent r.channel.extension (c.left ∷ c.right ∷ [])

abbrev pub run_merge : LayerRun → SentLayer → ℕ
run_merge r c = extension_draw r.channel.rules r.channel.extension (run_values r c)

-- the history after it was drawn, and what the layer appended
abbrev pub run_end : LayerRun → SentLayer → List Event
run_end r c = run_values r c ++ replicate r.channel.extension.degree Draw

abbrev pub run_events : LayerRun → SentLayer → List Event
run_events r c =
    layer_prelude r.channel.extension r.channel.bits r.rounds r.claim ++ rounds_events r.channel.extension r.channel.bits c.rounds
    ++ sent r.channel.extension (c.left ∷ c.right ∷ []) ++ replicate r.channel.extension.degree Draw

-- ---- what a replay leaves

-- the replay of the rounds that came
abbrev pub run_replay : LayerRun → GivenLayer → Replay
run_replay r g = generic_replay r.ops r.channel (generic_shape r.rounds 2 r.channel.bits) r.claim g.wire r.history

-- they are as many as they should be, of two values each, and each witness passes
pub record IsReplayedWhole (r : LayerRun) (g : GivenLayer) : Type 0 where
  pub counted : IsCounted (run_replay r g)
  pub wide : AreWide 2 (sent_of g).rounds
  pub passes : AllPass r.channel.rules r.channel.extension r.channel.bits (run_begun r) (sent_of g).rounds

-- The layer was replayed whole, with these challenges and this residual, and the challenge that merges its two values was drawn.
pub record EndsRun (r : LayerRun) (g : GivenLayer) (rs : List ℕ) (rest merging : ℕ) (h' : List Event) : Type 0 where
  pub whole : IsReplayedWhole r g
  pub drawn : rs ≡ run_challenges r (sent_of g)
  pub residual : rest ≡ run_residual r (sent_of g)
  pub merge : merging ≡ run_merge r (sent_of g)
  pub history : h' ≡ run_end r (sent_of g)

-- It was broken off: the history ends with a part of what the layer appends, from the front on.
pub record BreaksRun (r : LayerRun) (g : GivenLayer) (h' : List Event) : Type 0 where
  pub count : ℕ
  pub history : h' ≡ r.history ++ take count (run_events r (sent_of g))

-- what the replay of a layer leaves of the history, by its result
abbrev pub LeavesRun : {EF : Type 0} → (EF → ℕ) → LayerRun → GivenLayer → Result (ReplayedLayer EF) GenericDegreeError → List Event → Type 0
LeavesRun number r g (Ok x) h' = EndsRun r g (map number x.challenges) (number x.residual) (number x.merge) h'
LeavesRun number r g (Err NoMemory) h' = BreaksRun r g h'
LeavesRun number r g (Err e) h' = LeavesVerify number (run_replay r g) r.history (Err e) h'
