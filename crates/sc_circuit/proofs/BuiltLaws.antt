-- A layer that was built is replayed whole, and is the one that an honest prover sends.
use Rattle.std.proofs.Common.{◌≡◌, ℕ, zero, suc, List, [], ◌∷◌, ◌++◌, length, map, None, Some, refl, ap, sym, ◌∙◌}
use Rattle.std.specs.Prelude.{Option, Err}
use Rattle.std.proofs.lemmas.List.Elements.{All-nil, All-cons}
use Rattle.sc_definitions.specs.declared.events.Event.{Event}
use Rattle.sc_definitions.specs.Ring.{Ops}
use Rattle.sc_definitions.specs.Tables.{entries, rows_of}
use Rattle.sc_definitions.specs.Transcript.{Round, messages_of, round_events, challenge}
use Rattle.sc_definitions.specs.Channels.{Channel, IsBuilt}
use Rattle.sc_definitions.proofs.ReplayLaws.{length-given_rounds}
use Rattle.sc_transcript.specs.Rounds.{witness_count}
use Rattle.sc_transcript.specs.Walks.{AreWide}
use Rattle.sc_transcript.proofs.GivenRounds.{count_witnesses}
use Rattle.sc_transcript.proofs.InStep.{all_pass}
use Rattle.sc_circuit_definitions.specs.LayerRounds.{LayerTables, layer_round, honest_layer}
use Rattle.sc_circuit.specs.declared.error.CircuitError.{CircuitError}
use Rattle.sc_circuit.specs.declared.error.CircuitError.TheVariants as errors
use Rattle.sc_degree.specs.declared.error.GenericDegreeError.{GenericDegreeError}
use Rattle.sc_circuit.specs.declared.reached.Reached.{Reached}
use Rattle.sc_circuit.specs.Runs.{GivenLayer, sent_of, LayerRun, run_begun, run_played, IsReplayedWhole}
use Rattle.sc_circuit.specs.Refusals.{build_refusal}
use Rattle.sc_circuit.specs.Builds.{IsBuiltRun, LeavesBuild}
use Rattle.sc_circuit.specs.BuiltLayers.{BuildStep, step_tables, LeavesBuildStep}
use Rattle.sc_degree.specs.declared.error.GenericDegreeError.TheVariants as rounds
use Rattle.sc_circuit.specs.Steps.{LayerStep, LeavesLayer}
use Rattle.sc_circuit.proofs.TurnLaws.{values-width}
use Rattle.sc_circuit.proofs.GivenLaws.{whole-none, refused-as}

-- the rows of elements are those of their numbers
pub entries-rows : {X : Type 0} (number : X → ℕ) (xs : List X) → entries number xs ≡ rows_of (map number xs)
unfolding entries rows_of
entries-rows number xs = refl

built-wide : (o : Ops) (t : LayerTables) (c : Channel) (h : List Event) (rs : List ℕ) (n : ℕ) (rounds : List Round) → IsBuilt (honest_layer o t) c h rs n rounds → AreWide 2 rounds
unfolding honest_layer
built-wide o t c h rs n [] b = All-nil (λ (values : List ℕ). length values ≡ 2)
built-wide o t c h rs zero (r ∷ rounds) b = absurd b
built-wide o t c h rs (suc n) (r ∷ rounds) b =
    All-cons (λ (values : List ℕ). length values ≡ 2) r.values (messages_of rounds) (ap length b.0 ∙ values-width o 2 (layer_round o t rs n))
    (built-wide o t c (h ++ round_events c.extension c.bits r) (rs ++ challenge c.rules c.extension c.bits h r ∷ []) n rounds b.2)

module _ (r : LayerRun) (t : LayerTables) (g : GivenLayer) where
  -- wherever it was built
  pub built-plain : (h' : List Event) → IsBuiltRun r t g h' → IsBuiltRun r t g (run_played r (sent_of g))
  built-plain h' b = record { built = b.built; count = b.count; left = b.left; right = b.right; wire = b.wire; history = refl }

  pub built-whole : (h' : List Event) → IsBuiltRun r t g h' → IsReplayedWhole r g
  built-whole h' b =
      let c = r.channel in
      let rounds = (sent_of g).rounds in
      record {
        counted = record {
          as_rounds = sym (length-given_rounds g.wire.messages g.wire.witnesses) ∙ b.count;
          as_witnesses = ap (λ (x : GivenLayer). length x.wire.witnesses) b.wire ∙ count_witnesses c.bits rounds ∙ ap (witness_count c.bits) b.count;
        };
        wide = built-wide r.ops t c (run_begun r) [] r.rounds rounds b.built;
        passes = all_pass (honest_layer r.ops t) c (run_begun r) [] r.rounds rounds b.built;
      }

-- its replay is refused for want of memory alone
pub built-memory : (T : Type 0) {EF : Type 0} (number : EF → ℕ) (s : LayerStep) (t : LayerTables) (old new : Reached EF) (e : CircuitError) (h1 h' : List Event) →
    IsBuiltRun s.run t s.came h1 → LeavesLayer {T = T} number s old new (Err e) h' → e ≡ errors.NoMemory
built-memory T number s t old new (errors.Layer i e) h1 h' b left =
    let none = whole-none s.run s.came (built-whole s.run t s.came h1 b) in
    let some = refused-as s.run s.came number e h' left.1 left.2 in
    let both : ◌≡◌ {A = Option GenericDegreeError} None (Some e) = sym none ∙ some in cc
built-memory T number s t old new errors.NoMemory h1 h' b left = refl
built-memory T number s t old new (errors.Depth n) h1 h' b left = absurd left
built-memory T number s t old new (errors.Width j n) h1 h' b left = absurd left
built-memory T number s t old new (errors.Wire j n) h1 h' b left = absurd left
built-memory T number s t old new (errors.OutputCount j n) h1 h' b left = absurd left
built-memory T number s t old new (errors.Difficulty j n) h1 h' b left = absurd left
built-memory T number s t old new (errors.FalseOutput j x y) h1 h' b left = absurd left
built-memory T number s t old new (errors.LayerCount j n) h1 h' b left = absurd left
built-memory T number s t old new (errors.NoWitness j n) h1 h' b left = absurd left

-- a layer that was not built
pub refused-step : {F EF : Type 0} (base : F → ℕ) (number : EF → ℕ) (s : BuildStep) (old new : Reached EF) (e : GenericDegreeError) (h1 h' : List Event) →
    LeavesBuild {F = F} {EF = EF} base number s.run (step_tables s) (Err e) h1 → LeavesBuildStep {F = F} {EF = EF} base number s old new (Err (build_refusal s.layer e)) h'
refused-step base number s old new (rounds.NoWitness j) h1 h' left = (refl, left)
refused-step base number s old new rounds.NoMemory h1 h' left = tt
refused-step base number s old new (rounds.InvalidDegree d) h1 h' left = tt
refused-step base number s old new (rounds.RoundCountMismatch expected actual) h1 h' left = tt
refused-step base number s old new (rounds.PowWitnessCountMismatch expected actual) h1 h' left = tt
refused-step base number s old new (rounds.PolyEvalCountMismatch i expected actual) h1 h' left = tt
refused-step base number s old new (rounds.MissingPowWitness i) h1 h' left = tt
refused-step base number s old new (rounds.InvalidPowWitness i) h1 h' left = tt
