-- What the replay of a layer leaves for the layer below.
use Rattle.std.specs.Prelude.{◌≡◌, ℕ, ◌<◌, ◌^◌, List, [], ◌∷◌, ◌++◌, length, map, take, drop, Result, Ok, Err}
use Rattle.sc_definitions.specs.declared.events.Event.{Event}
use Rattle.sc_definitions.specs.Ring.{Ops, ◌+⟨◌⟩◌, ◌*⟨◌⟩◌}
use Rattle.sc_definitions.specs.Tables.{entries}
use Rattle.sc_degree.specs.declared.error.GenericDegreeError.{GenericDegreeError}
use Rattle.sc_degree.specs.declared.error.GenericDegreeError.TheVariants as rounds
use Rattle.sc_degree.specs.Proofs.{LeavesVerify}
use Rattle.sc_circuit_definitions.specs.declared.gate.Gate.{Gate}
use Rattle.sc_circuit_definitions.specs.Circuits.{merged_weight}
use Rattle.sc_circuit_definitions.specs.LayerRounds.{gate_tables, layer_sum}
use Rattle.sc_circuit_definitions.specs.CircuitPlays.{SentLayer}
use Rattle.sc_circuit.specs.declared.error.CircuitError.{CircuitError}
use Rattle.sc_circuit.specs.declared.error.CircuitError.TheVariants.{Layer, NoMemory}
use Rattle.sc_circuit.specs.Runs.{GivenLayer, sent_of, LayerRun, run_challenges, run_residual, run_merge, run_end, run_replay, IsReplayedWhole, BreaksRun}
use Rattle.sc_circuit.specs.Options.{or_first, disagreement_at}
use Rattle.sc_circuit.specs.declared.reached.Reached.{Reached}

-- two weights are the same of so many values
abbrev pub AreSame : ℕ → (ℕ → ℕ) → (ℕ → ℕ) → Type 0
AreSame n w u = (g : ℕ) → g < n → w g ≡ u g

-- a layer that was played: over a layer of so many variables, with these challenges, the two values that came, and the challenge that merges them
pub record Played : Type 0 where
  pub variables : ℕ
  pub challenges : List ℕ
  pub left : ℕ
  pub right : ℕ
  pub merge : ℕ

-- what its rounds sum at the challenges, where the gates have these weights
abbrev pub played_sum : Ops → (ℕ → ℕ) → List Gate → Played → ℕ
played_sum o w gates p = layer_sum o (gate_tables o p.variables w (λ b. 0) gates) p.challenges p.left p.right

-- the claim on the layer below, and the weights of its values
abbrev pub played_claim : Ops → Played → ℕ
played_claim o p = p.left +⟨ o ⟩ p.merge *⟨ o ⟩ p.right

abbrev pub played_weight : Ops → Played → ℕ → ℕ
played_weight o p = merged_weight o p.merge (take p.variables p.challenges) (drop p.variables p.challenges)

-- What was reached goes on to the layer below, after a layer was played and its rounds left `rest` of its claim.
pub record TakesPlayed {EF : Type 0} (o : Ops) (number : EF → ℕ) (gates : List Gate) (layer rest : ℕ) (p : Played) (old new : Reached EF) : Type 0 where
  pub claim : number new.claim ≡ played_claim o p
  pub count : length new.weights.items ≡ 2 ^ p.variables
  pub weights : AreSame (2 ^ p.variables) (entries number new.weights.items) (played_weight o p)
  pub challenges : map (λ row. map number row) new.challenges.items ≡ map (λ row. map number row) old.challenges.items ++ p.challenges ∷ []
  pub merges : map number new.merges.items ≡ map number old.merges.items ++ p.merge ∷ []
  pub disagreement : (w : ℕ → ℕ) → AreSame (length gates) (entries number old.weights.items) w →
      new.disagreement ≡ or_first old.disagreement (disagreement_at layer rest (played_sum o w gates p))

-- the play of what was sent for a layer, over one of so many variables
abbrev pub played_of : LayerRun → ℕ → SentLayer → Played
played_of r k c = record { variables = k; challenges = run_challenges r c; left = c.left; right = c.right; merge = run_merge r c }

-- The replay of a layer that is asked for: where its rounds begin, its gates, with the number of variables of the layer below and its own number, and what
-- came.
pub record LayerStep : Type 0 where
  pub run : LayerRun
  pub gates : List Gate
  pub variables : ℕ
  pub layer : ℕ
  pub came : GivenLayer

-- It was replayed whole, and what was reached goes on to the layer below.
pub record TakesLayer {EF : Type 0} (number : EF → ℕ) (s : LayerStep) (old new : Reached EF) (h' : List Event) : Type 0 where
  pub whole : IsReplayedWhole s.run s.came
  pub history : h' ≡ run_end s.run (sent_of s.came)
  pub takes : TakesPlayed s.run.ops number s.gates s.layer (run_residual s.run (sent_of s.came)) (played_of s.run s.variables (sent_of s.came)) old new

-- what a layer is refused for: each cause but want of memory
abbrev pub IsCauseOfLayer : GenericDegreeError → Type 0
IsCauseOfLayer rounds.NoMemory = ⊥
IsCauseOfLayer e = Unit {0}

-- what it leaves, by its result
abbrev pub LeavesLayer : {T EF : Type 0} → (EF → ℕ) → LayerStep → Reached EF → Reached EF → Result T CircuitError → List Event → Type 0
LeavesLayer number s old new (Ok x) h' = TakesLayer number s old new h'
LeavesLayer number s old new (Err (Layer i e)) h' =
    (i ≡ s.layer) × IsCauseOfLayer e × LeavesVerify number (run_replay s.run s.came) s.run.history (Err e) h'
LeavesLayer number s old new (Err NoMemory) h' = BreaksRun s.run s.came h'
LeavesLayer number s old new (Err e) h' = ⊥
