-- Layers that are built, one after the other.
use Rattle.std.proofs.Common.{◌≡◌, ℕ, suc, ◌+◌, ◌<◌, Bool, true, false, List, [], ◌∷◌, ◌++◌, All, length, map, if◌then◌else◌, refl, ap, sym, ◌∙◌, subst, arith, append_assoc}
use mathlib.Core.Path.{fun_ext}
use Rattle.std.specs.Prelude.{Result, Ok, Err}
use Rattle.std.proofs.lemmas.List.{append-nil}
use Rattle.sc_definitions.specs.declared.events.Event.{Event}
use Rattle.sc_definitions.specs.Ring.{Ops, plus}
use Rattle.sc_definitions.specs.Events.{NonePasses}
use Rattle.sc_definitions.specs.Tables.{entries}
use Rattle.sc_definitions.specs.Transcript.{Round}
use Rattle.sc_definitions.specs.Witnesses.{honest_rounds}
use Rattle.sc_definitions.proofs.WitnessLaws.{honest_rounds-whole, honest_rounds-none, none_passes}
use Rattle.sc_circuit_definitions.specs.declared.gate.Gate.{Gate}
use Rattle.sc_circuit_definitions.specs.Circuits.{top_values, is_gate_at, gate_weights}
use Rattle.sc_circuit_definitions.specs.LayerRounds.{LayerTables, gate_tables, honest_layer}
use Rattle.sc_circuit_definitions.specs.CircuitPlays.{CircuitCase, LayerStart, SentLayer, layer_tables, rounds_over, before_rounds, play_of, next_start, IsBuiltLayer}
use Rattle.sc_circuit.specs.declared.error.CircuitError.{CircuitError}
use Rattle.sc_circuit.specs.declared.error.CircuitError.TheVariants as errors
use Rattle.sc_circuit.specs.declared.reached.Reached.{Reached}
use Rattle.sc_circuit.specs.declared.built.Building.{Building}
use Rattle.sc_circuit.specs.Runs.{GivenLayer, layer_in, sent_of}
use Rattle.sc_circuit.specs.Builds.{IsBuiltRun, StopsRun}
use Rattle.sc_circuit.specs.Steps.{AreSame, TakesLayer}
use Rattle.sc_circuit.specs.Replays.{run_at}
use Rattle.sc_circuit.specs.CircuitRounds.{Unwitnessed, sent_with, with_rounds_of, sent_before, layers_built}
use Rattle.sc_circuit.specs.BuiltLayers.{BuildStep, step_tables, LeavesBuildStep, lower_values, BuildTask, BuildsLayers, LeavesBuilds}
use Rattle.sc_circuit.proofs.LayersLaws.{step, layers-none, layers-next}

pub first-same : {A : Type 0} (x y : A) (xs ys : List A) → x ∷ xs ≡ y ∷ ys → x ≡ y
first-same x y xs ys is = cc

pub rest-same : {A : Type 0} (x y : A) (xs ys : List A) → x ∷ xs ≡ y ∷ ys → xs ≡ ys
rest-same x y xs ys is = cc

-- rows are the values of the layers below these ones: the first row, and the others
pub first-values : {X : Type 0} (o : Ops) (view : X → List ℕ) (rows : List X) (x : X) (xs : List X) (all : List (List Gate)) (gates : List Gate) (layers : List (List Gate)) (inputs : List ℕ) →
    map view rows ≡ lower_values o all inputs → rows ≡ x ∷ xs → all ≡ gates ∷ layers → view x ≡ top_values o layers inputs
first-values o view rows x xs all gates layers inputs are split is =
    first-same (view x) (top_values o layers inputs) (map view xs) (lower_values o layers inputs) (sym (ap (map view) split) ∙ are ∙ ap (λ ls. lower_values o ls inputs) is)

pub other-values : {X : Type 0} (o : Ops) (view : X → List ℕ) (rows : List X) (x : X) (xs : List X) (all : List (List Gate)) (gates : List Gate) (layers : List (List Gate)) (inputs : List ℕ) →
    map view rows ≡ lower_values o all inputs → rows ≡ x ∷ xs → all ≡ gates ∷ layers → map view xs ≡ lower_values o layers inputs
other-values o view rows x xs all gates layers inputs are split is =
    rest-same (view x) (top_values o layers inputs) (map view xs) (lower_values o layers inputs) (sym (ap (map view) split) ∙ are ∙ ap (λ ls. lower_values o ls inputs) is)

-- ---- weights that are the same of all gates

weights-same : (o : Ops) (product : Bool) (k : ℕ) (w u : ℕ → ℕ) (g : ℕ) (gates : List Gate) (row : ℕ) → ((j : ℕ) → j < g + length gates → w j ≡ u j) →
    gate_weights o product w k g gates row ≡ gate_weights o product u k g gates row
unfolding gate_weights
weights-same o product k w u g [] row same = refl
weights-same o product k w u g (gate ∷ gates) row same =
    let more : suc g + length gates ≡ g + suc (length gates) = omega arith in
    ap (λ x. plus o (if is_gate_at product k row gate then x else 0) (gate_weights o product w k (suc g) gates row)) (same g (omega arith))
    ∙ ap (plus o (if is_gate_at product k row gate then u g else 0)) (weights-same o product k w u (suc g) gates row (λ j low. same j (omega (arith, low, more))))

pub tables-same : (o : Ops) (k : ℕ) (w u v : ℕ → ℕ) (gates : List Gate) → AreSame (length gates) w u → gate_tables o k w v gates ≡ gate_tables o k u v gates
tables-same o k w u v gates same =
    let sums = fun_ext (λ row. weights-same o false k w u 0 gates row (λ j low. same j (omega (arith, low)))) in
    let products = fun_ext (λ row. weights-same o true k w u 0 gates row (λ j low. same j (omega (arith, low)))) in
    ap (λ (s : ℕ → ℕ). tables-of o k v s (gate_weights o true w k 0 gates)) sums
    ∙ ap (λ (p : ℕ → ℕ). tables-of o k v (gate_weights o false u k 0 gates) p) products where
      tables-of : Ops → ℕ → (ℕ → ℕ) → (ℕ → ℕ) → (ℕ → ℕ) → LayerTables
      tables-of o k v s p = record { variables = k; sums = s; products = p; below = v }

-- ---- what is built

module _ (q : CircuitCase) (gates : List Gate) (layers : List (List Gate)) (at : LayerStart) (i : ℕ) where
  abbrev t : LayerTables
  t = layer_tables q gates layers at.weights

  abbrev later : SentLayer → Result (List SentLayer) Unwitnessed
  later c = layers_built q (suc i) layers (next_start q layers (play_of q gates layers at c))

  abbrev after_rounds : List Round → Result (List SentLayer) Unwitnessed
  after_rounds rounds = sent_before (sent_with q gates layers at rounds) (later (sent_with q gates layers at rounds))

  module _ (g : GivenLayer) (h' : List Event) (b : IsBuiltRun (run_at q layers at) t g h') where
    pub built-layer : IsBuiltLayer q layers (play_of q gates layers at (sent_of g))
    built-layer = record { built = b.built; count = b.count; left = b.left; right = b.right }

    module _ (low : All (λ w. w < q.channel.base_size) g.wire.witnesses) where
      honest-rounds : honest_rounds (honest_layer q.ops t) q.channel (before_rounds q layers at) [] (rounds_over q layers) ≡ Ok (sent_of g).rounds
      honest-rounds =
          honest_rounds-whole q.channel.rules q.channel.extension q.channel.base_size (honest_layer q.ops t) q.channel.bits (before_rounds q layers at) [] (rounds_over q layers)
          (sent_of g).rounds b.count (subst (All (λ w. w < q.channel.base_size)) (ap (λ (x : GivenLayer). x.wire.witnesses) b.wire) low) b.built

      honest-sent : sent_with q gates layers at (sent_of g).rounds ≡ sent_of g
      honest-sent =
          let sent : ℕ → ℕ → SentLayer = λ l r. record { rounds = (sent_of g).rounds; left = l; right = r } in
          ap (λ l. sent l (sent_with q gates layers at (sent_of g).rounds).right) (sym b.left) ∙ ap (sent g.left) (sym b.right)

      pub built-first : (r : Result (List SentLayer) Unwitnessed) → later (sent_of g) ≡ r → layers_built q i (gates ∷ layers) at ≡ sent_before (sent_of g) r
      built-first r is =
          ap (λ x. with_rounds_of i x after_rounds) honest-rounds
          ∙ ap (λ c. sent_before c (later c)) honest-sent
          ∙ ap (sent_before (sent_of g)) is

  -- no witness is found in a round
  pub stops-first : (j : ℕ) → StopsRun (run_at q layers at) t j → layers_built q i (gates ∷ layers) at ≡ Err (record { layer = i; round = j })
  stops-first j s =
      let R = q.channel.rules in
      let E = q.channel.extension in
      let bits = q.channel.bits in
      let size = q.channel.base_size in
      let begun = before_rounds q layers at in
      let honest = honest_layer q.ops t in
      let some : length s.rounds + suc s.left ≡ rounds_over q layers = omega (arith, s.some, s.count) in
      let none = subst (λ h. NonePasses R h bits size) s.none.history s.none.none_passes in
      let stopped = honest_rounds-none R E size honest bits begun [] (rounds_over q layers) s.rounds s.left some s.low s.built
      (none_passes R E size bits _ s.none.positive none) in
      ap (λ x. with_rounds_of i x after_rounds) (stopped ∙ ap Err s.count)

-- ---- all layers

module _ {F EF : Type 0} (base : F → ℕ) (number : EF → ℕ) where
  -- no layer
  pub builds-none : (q : CircuitCase) (at : LayerStart) (i : ℕ) (old : Building F EF) (h' : List Event) → number old.reached.claim ≡ at.claim → length old.reached.weights.items ≡ length q.inputs →
      AreSame (length q.inputs) (entries number old.reached.weights.items) at.weights → h' ≡ at.history →
      BuildsLayers base number (record { case = q; layers = []; at = at; first = i }) old old h'
  builds-none q at i old h' claim count weights history = record {
    layers = [];
    appended = sym (append-nil _);
    are = refl;
    honest = tt;
    takes = layers-none number q [] at i old.reached h' claim count weights history;
  }

  module _ (q : CircuitCase) (gates : List Gate) (layers : List (List Gate)) (at : LayerStart) (i : ℕ) where
    abbrev pub task : BuildTask
    task = record { case = q; layers = gates ∷ layers; at = at; first = i }

    abbrev pub rest : GivenLayer → BuildTask
    rest g = record { case = q; layers = layers; at = next_start q layers (play_of q gates layers at (sent_of g)); first = i + 1 }

    module _ (g : GivenLayer) (h1 : List Event) (b : IsBuiltRun (run_at q layers at) (layer_tables q gates layers at.weights) g h1)
        (low : All (λ w. w < q.channel.base_size) g.wire.witnesses) (old mid : Building F EF) (h2 : List Event)
        (put : map (layer_in base number) mid.built.items ≡ map (layer_in base number) old.built.items ++ g ∷ [])
        (weights : AreSame (length gates) (entries number old.reached.weights.items) at.weights)
        (taken : TakesLayer number (step q gates layers g [] at i) old.reached mid.reached h2) where
      one : suc i ≡ i + 1
      one = omega arith

      abbrev next : LayerStart
      next = next_start q layers (play_of q gates layers at (sent_of g))

      abbrev done : Result (Unit {0}) CircuitError
      done = Ok tt

      builds-whole : (new : Building F EF) (h' : List Event) → BuildsLayers base number (rest g) mid new h' → BuildsLayers base number task old new h'
      builds-whole new h' l = record {
        layers = g ∷ l.layers;
        appended = l.appended ∙ ap (λ x. x ++ l.layers) put ∙ append_assoc (map (layer_in base number) old.built.items) (g ∷ []) l.layers;
        are = built-first q gates layers at i g h1 b low (Ok (map sent_of l.layers)) (ap (λ n. layers_built q n layers next) one ∙ l.are);
        honest = (built-layer q gates layers at i g h1 b, l.honest);
        takes = layers-next q gates layers g l.layers at i number old.reached mid.reached new.reached done h2 h' weights taken l.takes;
      }

      pub builds-next : {T : Type 0} (new : Building F EF) (r : Result T CircuitError) (h' : List Event) → LeavesBuilds base number (rest g) mid new r h' →
          LeavesBuilds base number task old new r h'
      builds-next new (Ok x) h' l = builds-whole new h' l
      builds-next new (Err (errors.NoWitness j k)) h' l =
          built-first q gates layers at i g h1 b low (Err (record { layer = j; round = k })) (ap (λ n. layers_built q n layers next) one ∙ l)
      builds-next new (Err errors.NoMemory) h' l = tt
      builds-next new (Err (errors.Depth n)) h' l = absurd l
      builds-next new (Err (errors.Width j n)) h' l = absurd l
      builds-next new (Err (errors.Wire j n)) h' l = absurd l
      builds-next new (Err (errors.OutputCount j n)) h' l = absurd l
      builds-next new (Err (errors.Difficulty j n)) h' l = absurd l
      builds-next new (Err (errors.FalseOutput j x y)) h' l = absurd l
      builds-next new (Err (errors.LayerCount j n)) h' l = absurd l
      builds-next new (Err (errors.Layer j e)) h' l = absurd l

    -- the first is not built
    module _ (s : BuildStep) (run : s.run ≡ run_at q layers at) (tables : step_tables s ≡ layer_tables q gates layers at.weights) (layer : s.layer ≡ i) (S : Type 0)
        (old mid : Reached EF) (o n : Building F EF) (h1 h' : List Event) where
      pub builds-refused : (e : CircuitError) → LeavesBuildStep {F = F} base number s old mid (Err e) h1 → LeavesBuilds {T = S} base number task o n (Err e) h'
      builds-refused (errors.NoWitness j k) l =
          let at_run = subst (λ r. StopsRun r (step_tables s) k) run l.1 in
          stops-first q gates layers at i k (subst (λ x. StopsRun (run_at q layers at) x k) tables at_run)
          ∙ ap (λ m. stopped m k) (sym (l.0 ∙ layer)) where
            stopped : ℕ → ℕ → Result (List SentLayer) Unwitnessed
            stopped m k = Err (record { layer = m; round = k })
      builds-refused errors.NoMemory l = tt
      builds-refused (errors.Depth n) l = absurd l
      builds-refused (errors.Width j n) l = absurd l
      builds-refused (errors.Wire j n) l = absurd l
      builds-refused (errors.OutputCount j n) l = absurd l
      builds-refused (errors.Difficulty j n) l = absurd l
      builds-refused (errors.FalseOutput j x y) l = absurd l
      builds-refused (errors.LayerCount j n) l = absurd l
      builds-refused (errors.Layer j e) l = absurd l
