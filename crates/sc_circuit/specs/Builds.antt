-- What the build of a layer leaves.
use Rattle.std.specs.Prelude.{◌≡◌, ℕ, suc, ◌+◌, ◌<◌, All, List, [], ◌++◌, length, Result, Ok, Err}
use Rattle.sc_definitions.specs.declared.events.Event.{Event}
use Rattle.sc_definitions.specs.Transcript.{Round, rounds_events, challenges}
use Rattle.sc_definitions.specs.Channels.{witnesses_of, IsBuilt, NoWitnessFound}
use Rattle.sc_degree.specs.declared.error.GenericDegreeError.{GenericDegreeError}
use Rattle.sc_degree.specs.declared.error.GenericDegreeError.TheVariants as rounds
use Rattle.sc_circuit_definitions.specs.LayerRounds.{LayerTables, left_at, right_at, honest_layer}
use Rattle.sc_circuit.specs.declared.proof.LayerProof.{LayerProof}
use Rattle.sc_circuit.specs.CircuitReports.{wired}
use Rattle.sc_circuit.specs.Runs.{GivenLayer, layer_in, sent_of, LayerRun, run_begun, run_challenges, run_played}

-- It was built: its rounds send what an honest prover sends, each with the first witness, its two values are the true ones, and nothing else is on the wire.
pub record IsBuiltRun (r : LayerRun) (t : LayerTables) (g : GivenLayer) (h' : List Event) : Type 0 where
  pub built : IsBuilt (honest_layer r.ops t) r.channel (run_begun r) [] r.rounds (sent_of g).rounds
  pub count : length (sent_of g).rounds ≡ r.rounds
  pub left : g.left ≡ left_at r.ops t (run_challenges r (sent_of g))
  pub right : g.right ≡ right_at r.ops t (run_challenges r (sent_of g))
  pub wire : g ≡ wired r.channel.bits (sent_of g)
  pub history : h' ≡ run_played r (sent_of g)

-- It stops in round j, for which no witness is found.
pub record StopsRun (r : LayerRun) (t : LayerTables) (j : ℕ) : Type 0 where
  pub rounds : List Round
  pub built : IsBuilt (honest_layer r.ops t) r.channel (run_begun r) [] r.rounds rounds
  pub count : length rounds ≡ j
  pub low : All (λ w. w < r.channel.base_size) (witnesses_of r.channel.bits rounds)
  pub left : ℕ
  pub some : j + suc left ≡ r.rounds
  pub end : List Event
  pub none : NoWitnessFound r.channel (run_begun r ++ rounds_events r.channel.extension r.channel.bits rounds)
      (honest_layer r.ops t (challenges r.channel.rules r.channel.extension r.channel.bits (run_begun r) rounds) left) end

-- what the build of a layer leaves, by its result
abbrev pub LeavesBuild : {F EF : Type 0} → (F → ℕ) → (EF → ℕ) → LayerRun → LayerTables → Result (LayerProof F EF) GenericDegreeError → List Event → Type 0
LeavesBuild base number r t (Ok l) h' = IsBuiltRun r t (layer_in base number l) h'
LeavesBuild base number r t (Err (rounds.NoWitness j)) h' = StopsRun r t j
LeavesBuild base number r t (Err rounds.NoMemory) h' = Unit {0}
LeavesBuild base number r t (Err e) h' = ⊥
