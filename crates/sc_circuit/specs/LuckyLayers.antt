-- Layers that were replayed, and the first lucky challenge of them.
use Rattle.std.specs.Prelude.{◌≡◌, ℕ, All, List, [], ◌∷◌, length, map, take, drop, Option}
use Rattle.sc_definitions.specs.Ring.{Ops, ◌+⟨◌⟩◌, ◌-⟨◌⟩◌, ◌*⟨◌⟩◌}
use Rattle.sc_definitions.specs.Tables.{entries, value}
use Rattle.sc_soundness.specs.Stages.{StageLuck, stages_luck}
use Rattle.sc_circuit_definitions.specs.declared.gate.Gate.{Gate}
use Rattle.sc_circuit_definitions.specs.Circuits.{top_values, top_width}
use Rattle.sc_circuit_definitions.specs.CircuitPlays.{CircuitCase, IsCircuitCase, LayerStart, SentLayer, plays_from, end_from, merges_from}
use Rattle.sc_circuit_definitions.specs.CircuitFindings.{circuit_stages}
use Rattle.sc_circuit.specs.declared.luck.PlayedLayers.{PlayedLayers}
use Rattle.sc_circuit.specs.declared.luck.Begun.{Begun}
use Rattle.sc_circuit.specs.Runs.{GivenLayer, layer_in, sent_of}
use Rattle.sc_circuit.specs.Steps.{AreSame, Played, played_claim, played_weight}
use Rattle.sc_circuit.specs.Stacks.{rounds_above, stack_layers}
use Rattle.sc_circuit.specs.BuiltLayers.{lower_values}

-- Of layers over so many inputs, for each there came as many rounds as it has, of two values each, with as many challenges, and one that merges its values.
abbrev pub AreFull : ℕ → List (List Gate) → List GivenLayer → List (List ℕ) → List ℕ → Type 0
AreFull inputs [] came challenges merges = Unit {0}
AreFull inputs (gates ∷ layers) [] challenges merges = ⊥
AreFull inputs (gates ∷ layers) (g ∷ came) [] merges = ⊥
AreFull inputs (gates ∷ layers) (g ∷ came) (rs ∷ challenges) [] = ⊥
AreFull inputs (gates ∷ layers) (g ∷ came) (rs ∷ challenges) (m ∷ merges) =
    (length g.wire.messages ≡ rounds_above (top_width layers inputs)) × All (λ values. length values ≡ 2) g.wire.messages
    × (length rs ≡ rounds_above (top_width layers inputs)) × AreFull inputs layers came challenges merges

-- what was sent for each layer
abbrev pub sent_in : {F EF : Type 0} → (F → ℕ) → (EF → ℕ) → PlayedLayers F EF → List SentLayer
sent_in base number p = map sent_of (map (layer_in base number) p.came.now)

-- These layers are those of a case, and were replayed from a start on, which the first of them begins at.
pub record IsPlayedFrom {F EF : Type 0} (base : F → ℕ) (number : EF → ℕ) (q : CircuitCase) (p : PlayedLayers F EF) (b : Begun EF) (at : LayerStart) : Type 0 where
  pub case : IsCircuitCase q
  pub inputs : length q.inputs ≡ p.stack.inputs
  pub values : map base p.values.now ≡ top_values q.base (stack_layers p.stack) q.inputs
  pub below : map (λ row. map base row) p.below.now ≡ lower_values q.base (stack_layers p.stack) q.inputs
  pub challenges : map (λ rs. map number rs) p.challenges.now
      ≡ map (λ play. play.challenges) (plays_from q (stack_layers p.stack) (sent_in base number p) at)
  pub merges : map number p.merges.now ≡ merges_from q (stack_layers p.stack) (sent_in base number p) at
  pub claim : number b.claim ≡ at.claim
  pub weights : AreSame (length p.values.now) (entries number b.weights.items) at.weights
  pub excess : map number b.excess.items ≡ at.excess

-- the first lucky challenge of them and of the inputs, if one is
abbrev pub played_luck : {F EF : Type 0} → (F → ℕ) → (EF → ℕ) → CircuitCase → PlayedLayers F EF → LayerStart → Option StageLuck
played_luck base number q p at =
    stages_luck q.ops p.stack.first
    (circuit_stages q (plays_from q (stack_layers p.stack) (sent_in base number p) at) (end_from q (stack_layers p.stack) (sent_in base number p) at))

-- Where the layer below one that was played begins, which has so many values, these.
pub record StartsBelow {EF : Type 0} (o : Ops) (number : EF → ℕ) (width : ℕ) (below : ℕ → ℕ) (p : Played) (b : Begun EF) : Type 0 where
  pub claim : number b.claim ≡ played_claim o p
  pub count : length b.weights.items ≡ width
  pub weights : AreSame width (entries number b.weights.items) (played_weight o p)
  pub excess : map number b.excess.items
      ≡ p.left -⟨ o ⟩ value o below (take p.variables p.challenges) ∷ p.right -⟨ o ⟩ value o below (drop p.variables p.challenges) ∷ []
