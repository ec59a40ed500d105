-- The answer as a whole: that a build holds, and that a lucky challenge is certified.
use Rattle.std.proofs.Common.{◌≡◌, ⊎_elim, ℕ, suc, ◌<◌, Bool, true, false, List, [], ◌∷◌, ◌++◌, length, map, if◌then◌else◌, Option, Some, None, refl, ap, sym, ◌∙◌, subst, arith}
use Rattle.std.specs.Prelude.{Result, Ok, Err, IfOk, ◌==◌, option_map}
use Rattle.std.proofs.Common.{eqb-true}
use Rattle.std.proofs.lemmas.List.Elements.{All-nil, All-cons, All-map}
use Rattle.std.proofs.lemmas.List.{length-map}
use Rattle.sc_definitions.specs.declared.events.Event.{Event}
use Rattle.sc_definitions.specs.Ring.{IsField, IsRingMap}
use Rattle.sc_challenger.specs.Parties.{Party}
use Rattle.sc_definitions.specs.Transcript.{Round, messages_of, round_events}
use Rattle.sc_definitions.specs.Replays.{round_passes}
use Rattle.sc_definitions.specs.Witnesses.{honest_rounds}
use Rattle.sc_definitions.proofs.WitnessLaws.{IsBuiltOr, honest_rounds-built}
use Rattle.sc_definitions.proofs.ReplayLaws.{length-given_rounds}
use Rattle.sc_transcript.specs.Rounds.{witness_count}
use Rattle.sc_transcript.specs.Walks.{AreWide}
use Rattle.sc_degree.specs.declared.error.GenericDegreeError.{GenericDegreeError}
use Rattle.sc_degree.specs.declared.error.GenericDegreeError.TheVariants as errors
use Rattle.sc_soundness.specs.Differences.{Difference}
use Rattle.sc_soundness.proofs.ImageLaws.{same-lists}
use Rattle.sc_circuit_definitions.specs.declared.gate.Gate.{Gate}
use Rattle.sc_circuit_definitions.specs.Circuits.{top_values, top_width, IsCircuit}
use Rattle.sc_circuit_definitions.specs.LayerRounds.{honest_layer}
use Rattle.sc_circuit_definitions.specs.CircuitPlays.{CircuitCase, IsCircuitCase, LayerStart, first_start, SentLayer, layer_tables, rounds_over, before_rounds, play_of, next_start, AreShaped, IsBuiltLayer, AreBuiltLayers}
use Rattle.sc_circuit_definitions.specs.CircuitFindings.{holds, lucky, false_output, CircuitFigures, circuit_figures, CertifiesCircuit}
use Rattle.sc_circuit_definitions.proofs.CircuitLaws.{values-length, holds-built, certified-circuit}
use Rattle.sc_circuit.specs.declared.error.CircuitError.{CircuitError}
use Rattle.sc_circuit.specs.declared.error.CircuitError.TheVariants as circuits
use Rattle.sc_circuit.specs.Runs.{GivenLayer, sent_of}
use Rattle.sc_circuit.specs.Shapes.{or_later}
use Rattle.sc_circuit.specs.Refusals.{output_fault, difficulty_fault, told_output, layers_fault}
use Rattle.sc_circuit.specs.declared.circuit.Circuit.{Circuit}
use Rattle.sc_circuit.specs.Views.{layers_in, inputs_in}
use Rattle.sc_circuit.specs.CircuitJobs.{Fields, claimed_of, case_of}
use Rattle.sc_circuit.proofs.ShapeLaws.{circuit-fits}
use Rattle.sc_circuit.specs.CircuitRounds.{Unwitnessed, sent_with, with_rounds_of, sent_before, layers_built, circuit_built, first_refused, given_fault, layers_refused, unless_fault}
use Rattle.sc_circuit.specs.CircuitReports.{given_result, built_result, task_result, early_fault, circuit_result, GivesResult}
use Rattle.sc_circuit.specs.CircuitAudits.{IsAnswered, HoldsOrLacks, HoldsWhereBuilt}
use Rattle.sc_circuit.proofs.AnswerLaws.{counts-are}

-- as many outputs as there should be
pub outputs-fit : (expected actual : ℕ) → output_fault expected actual ≡ None → actual ≡ expected
outputs-fit expected actual none = eqb-true _ _ (by (actual == expected) none) where
  by : (b : Bool) → (if b then None else Some (circuits.OutputCount expected actual)) ≡ None → b ≡ true
  by true is = refl
  by false is = cc

none-first : (e later : Option CircuitError) → or_later e later ≡ None → e ≡ None
none-first None later is = refl
none-first (Some e) later is = cc

-- what is asked of outputs that fit is a case
pub case-is : {F : Type 0} (number : F → ℕ) (fs : Fields) → IsField fs.base → IsField fs.ops → IsRingMap fs.base fs.ops fs.embedding → ((x : F) → number x < fs.base.size) →
    (circuit : Circuit) (inputs outputs : List F) (bits : ℕ) (party : Party) → length inputs ≡ inputs_in circuit →
    early_fault (case_of fs (claimed_of (layers_in circuit) (map number inputs) (map number outputs)) bits party) ≡ None →
    IsCircuitCase (case_of fs (claimed_of (layers_in circuit) (map number inputs) (map number outputs)) bits party)
case-is number fs base field embeds below circuit inputs outputs bits party fit early =
    let q = case_of fs (claimed_of (layers_in circuit) (map number inputs) (map number outputs)) bits party in
    let many : length (map number inputs) ≡ inputs_in circuit = length-map inputs number ∙ fit in
    record {
      base_field = base;
      field = field;
      embeds = embeds;
      circuit = subst (IsCircuit (layers_in circuit)) (sym many) (circuit-fits (layers_in circuit) (inputs_in circuit) circuit.fits);
      inputs_below = All-map (λ x. x < fs.base.size) number inputs (λ k d low. below _);
      outputs_below = All-map (λ x. x < fs.base.size) number outputs (λ k d low. below _);
      outputs_count = outputs-fit _ _ (none-first (output_fault (top_width q.layers (length q.inputs)) (length q.outputs)) (difficulty_fault q.channel.bits q.channel.rules.max_bits) early);
    }

-- ---- layers that are built

module _ (q : CircuitCase) where
  abbrev AreBuiltOr : List (List Gate) → LayerStart → Result (List SentLayer) Unwitnessed → Type 0
  AreBuiltOr layers at (Ok sent) = AreBuiltLayers q layers sent at
  AreBuiltOr layers at (Err u) = 0 < q.channel.bits

  built-before : (gates : List Gate) (layers : List (List Gate)) (at : LayerStart) (c : SentLayer) (r : Result (List SentLayer) Unwitnessed) →
      IsBuiltLayer q layers (play_of q gates layers at c) → AreBuiltOr layers (next_start q layers (play_of q gates layers at c)) r → AreBuiltOr (gates ∷ layers) at (sent_before c r)
  built-before gates layers at c (Ok sent) first later = (first, later)
  built-before gates layers at c (Err u) first later = later

  abbrev IsBuiltHere : List Gate → List (List Gate) → LayerStart → Result (List Round) ℕ → Type 0
  IsBuiltHere gates layers at r =
      IsBuiltOr q.channel.rules q.channel.extension q.channel.base_size (honest_layer q.ops (layer_tables q gates layers at.weights)) q.channel.bits (before_rounds q layers at) []
      (rounds_over q layers) r

  built-with : (i : ℕ) (gates : List Gate) (layers : List (List Gate)) (at : LayerStart) (r : Result (List Round) ℕ) → IsBuiltHere gates layers at r →
      ((c : SentLayer) → AreBuiltOr layers (next_start q layers (play_of q gates layers at c)) (layers_built q (suc i) layers (next_start q layers (play_of q gates layers at c)))) →
      AreBuiltOr (gates ∷ layers) at
      (with_rounds_of i r (λ rounds.
      let c = sent_with q gates layers at rounds in sent_before c (layers_built q (suc i) layers (next_start q layers (play_of q gates layers at c)))))
  built-with i gates layers at (Ok rounds) b later =
      let c = sent_with q gates layers at rounds in
      built-before gates layers at c (layers_built q (suc i) layers (next_start q layers (play_of q gates layers at c)))
      (record { built = b.1; count = b.0; left = refl; right = refl }) (later c)
  built-with i gates layers at (Err j) positive later = positive

  -- an honest prover builds them, or finds no witness at a difficulty
  are-built : (i : ℕ) (layers : List (List Gate)) (at : LayerStart) → AreBuiltOr layers at (layers_built q i layers at)
  are-built i [] at = tt
  are-built i (gates ∷ layers) at =
      let honest = honest_layer q.ops (layer_tables q gates layers at.weights) in
      built-with i gates layers at (honest_rounds honest q.channel (before_rounds q layers at) [] (rounds_over q layers))
      (honest_rounds-built q.channel.rules q.channel.extension q.channel.base_size honest q.channel.bits (before_rounds q layers at) [] (rounds_over q layers))
      (λ c. are-built (suc i) layers (next_start q layers (play_of q gates layers at c)))

  -- ---- layers that came

  refused-wide : (i : ℕ) (h : List Event) (rounds : List Round) → first_refused q.channel i h rounds ≡ None → AreWide 2 rounds
  refused-wide i h [] none = All-nil (λ (values : List ℕ). length values ≡ 2)
  refused-wide i h (r ∷ rounds) none =
      let all = by (length r.values == 2) (round_passes q.channel.rules q.channel.extension q.channel.bits h r) none in
      All-cons (λ (values : List ℕ). length values ≡ 2) r.values (messages_of rounds) (eqb-true _ _ all.0)
      (refused-wide (suc i) (h ++ round_events q.channel.extension q.channel.bits r) rounds all.1) where
        later : Option GenericDegreeError
        later = first_refused q.channel (suc i) (h ++ round_events q.channel.extension q.channel.bits r) rounds

        by : (a b : Bool) → (if a then (if b then later else Some (errors.InvalidPowWitness i)) else Some (errors.PolyEvalCountMismatch i 2 (length r.values))) ≡ None →
            (a ≡ true) × (later ≡ None)
        by true true is = (refl, is)
        by true false is = cc
        by false b is = cc

  given-shaped : (n : ℕ) (h : List Event) (g : GivenLayer) → given_fault q.channel n h g ≡ None → (length g.wire.messages ≡ n) × AreWide 2 (sent_of g).rounds
  given-shaped n h g none =
      let all = by (length g.wire.messages == n) (length g.wire.witnesses == witness_count q.channel.bits n) none in
      (eqb-true _ _ all.0, refused-wide 0 h (sent_of g).rounds all.1) where
        first : Option GenericDegreeError
        first = first_refused q.channel 0 h (sent_of g).rounds

        by : (a b : Bool) → (if a then (if b then first else Some (errors.PowWitnessCountMismatch (witness_count q.channel.bits n) (length g.wire.witnesses))) else Some (errors.RoundCountMismatch n (length g.wire.messages))) ≡ None →
            (a ≡ true) × (first ≡ None)
        by true true is = (refl, is)
        by true false is = cc
        by false b is = cc

  layer-none : (i : ℕ) (e : Option GenericDegreeError) (later : Option CircuitError) → or_later (option_map (λ x. circuits.Layer i x) e) later ≡ None → (e ≡ None) × (later ≡ None)
  layer-none i None later is = (refl, is)
  layer-none i (Some e) later is = cc

  are-shaped : (i : ℕ) (layers : List (List Gate)) (came : List GivenLayer) (at : LayerStart) → length came ≡ length layers → layers_refused q i layers came at ≡ None →
      AreShaped q layers (map sent_of came)
  are-shaped i [] [] at same none = tt
  are-shaped i [] (g ∷ came) at same none = absurd (omega (arith, same))
  are-shaped i (gates ∷ layers) [] at same none = absurd (omega (arith, same))
  are-shaped i (gates ∷ layers) (g ∷ came) at same none =
      let next = next_start q layers (play_of q gates layers at (sent_of g)) in
      let both = layer-none i (given_fault q.channel (rounds_over q layers) (before_rounds q layers at) g) (layers_refused q (suc i) layers came next) none in
      let shape = given-shaped (rounds_over q layers) (before_rounds q layers at) g both.0 in
      (length-given_rounds g.wire.messages g.wire.witnesses ∙ shape.0, shape.1, are-shaped (suc i) layers came next (omega (arith, same)) both.1)

-- what is answered where nothing is refused at once
pub answered-result : (q : CircuitCase) (came : Option (List GivenLayer)) (answer : Result CircuitFigures CircuitError) (h' : List Event) → early_fault q ≡ None → IsAnswered q came answer h' →
    GivesResult (circuit_result q came) answer
answered-result q came answer h' none a = subst (λ due. GivesResult due answer) (sym (ap (λ t. unless_fault t (task_result q came)) none)) a.result

pub both-none : (e later : Option CircuitError) → e ≡ None → later ≡ None → or_later e later ≡ None
both-none e later first second = ap (λ t. or_later t later) first ∙ second

-- ---- a build

-- a word of what is due is one of what is answered
answered-so : (bits : ℕ) (due answer : Result CircuitFigures CircuitError) → GivesResult due answer → HoldsOrLacks bits due → HoldsOrLacks bits answer
answered-so bits due (Ok f) is so = subst (HoldsOrLacks bits) is so
answered-so bits due (Err e) given so =
    ⊎_elim (λ memory. subst (λ x. HoldsOrLacks bits (Err x)) (sym memory) tt) (λ is. subst (HoldsOrLacks bits) is so) given

module _ (q : CircuitCase) (case : early_fault q ≡ None → IsCircuitCase q) where
  true-outputs : IsCircuitCase q → false_output q ≡ None → q.outputs ≡ top_values q.base q.layers q.inputs
  true-outputs is none = same-lists 0 q.outputs (top_values q.base q.layers q.inputs) (is.outputs_count ∙ sym (values-length q is q.layers)) none

  holds-so : (built : Result (List SentLayer) Unwitnessed) → IsCircuitCase q → false_output q ≡ None → AreBuiltOr q q.layers (first_start q) built → HoldsOrLacks q.channel.bits (built_result q built)
  holds-so (Ok sent) is none b = holds-built q is sent (true-outputs is none) b
  holds-so (Err u) is none positive = positive

  pub circuit-holds : (came : Option (List GivenLayer)) (answer : Result CircuitFigures CircuitError) → GivesResult (circuit_result q came) answer → HoldsWhereBuilt q came answer
  circuit-holds came answer given = λ fits build none.
      let due : circuit_result q came ≡ built_result q (circuit_built q) =
      ap (λ t. unless_fault t (task_result q came)) fits ∙ ap (task_result q) build
      ∙ ap (λ t. unless_fault (told_output t) (built_result q (circuit_built q))) none in
      answered-so q.channel.bits (built_result q (circuit_built q)) answer (subst (λ d. GivesResult d answer) due given)
      (holds-so (circuit_built q) (case fits) none (are-built q 0 q.layers (first_start q)))

  -- ---- certificates

  certified-built : (built : Result (List SentLayer) Unwitnessed) (f : CircuitFigures) → IsCircuitCase q → false_output q ≡ None → AreBuiltOr q q.layers (first_start q) built →
      built_result q built ≡ Ok f → CertifiesCircuit q f
  certified-built (Ok sent) f is none b due =
      let same : circuit_figures q sent ≡ f = cc in
      let right = true-outputs is none in
      let finds = holds-built q is sent right b in
      subst (CertifiesCircuit q) same
      (record {
        named = λ l found. (let both : holds ≡ lucky l = sym finds ∙ found in cc);
        no_other = λ agreed wrong. absurd (wrong right);
      })
  certified-built (Err u) f is none b due = cc

  certified-true : (fault : Option Difference) (f : CircuitFigures) → false_output q ≡ fault → IsCircuitCase q →
      unless_fault (told_output fault) (built_result q (circuit_built q)) ≡ Ok f → CertifiesCircuit q f
  certified-true None f none is due = certified-built (circuit_built q) f is none (are-built q 0 q.layers (first_start q)) due
  certified-true (Some d) f some is due = cc

  certified-given : (came : List GivenLayer) (f : CircuitFigures) → IsCircuitCase q → (counts refused : Option CircuitError) → layers_fault (length q.layers) (length came) ≡ counts →
      layers_refused q 0 q.layers came (first_start q) ≡ refused → given_result q (unless_fault counts (unless_fault refused (Ok (map sent_of came)))) ≡ Ok f → CertifiesCircuit q f
  certified-given came f is None None count none due =
      let same : circuit_figures q (map sent_of came) ≡ f = cc in
      subst (CertifiesCircuit q) same
      (certified-circuit q is (map sent_of came) (are-shaped q 0 q.layers came (first_start q) (counts-are (length q.layers) (length came) count) none))
  certified-given came f is None (Some e) count none due = cc
  certified-given came f is (Some e) refused count none due = cc

  certified-task : (came : Option (List GivenLayer)) (f : CircuitFigures) → IsCircuitCase q → task_result q came ≡ Ok f → CertifiesCircuit q f
  certified-task None f is due = certified-true (false_output q) f refl is due
  certified-task (Some came) f is due =
      certified-given came f is (layers_fault (length q.layers) (length came)) (layers_refused q 0 q.layers came (first_start q)) refl refl due

  certified-asked : (fault : Option CircuitError) (came : Option (List GivenLayer)) (f : CircuitFigures) → early_fault q ≡ fault → unless_fault fault (task_result q came) ≡ Ok f → CertifiesCircuit q f
  certified-asked None came f fits due = certified-task came f (case fits) due
  certified-asked (Some e) came f fits due = cc

  pub circuit-certified : (came : Option (List GivenLayer)) (answer : Result CircuitFigures CircuitError) → GivesResult (circuit_result q came) answer → IfOk answer (CertifiesCircuit q)
  circuit-certified came (Ok f) given = certified-asked (early_fault q) came f refl given
  circuit-certified came (Err e) given = tt
