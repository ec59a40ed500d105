-- What is answered of layers that came, and of those that were built, and what is left of the history.
use Rattle.std.proofs.Common.{◌≡◌, inl, inr, ℕ, zero, suc, ◌+◌, List, [], ◌∷◌, ◌++◌, All, length, map, take, Vec, Global, Option, Some, None, refl, ap, sym, ◌∙◌, subst, arith, eqb-true, append_assoc, zero-add}
use Rattle.std.specs.Prelude.{Result, Ok, Err, IsErrAnd, ◌==◌, if◌then◌else◌, option_map, replicate, Bool, true, false}
use Rattle.std.proofs.Math.Seq.{take-length}
use Rattle.std.proofs.lemmas.List.{append-nil}
use Rattle.sc_definitions.specs.declared.events.Event.{Event}
use Rattle.sc_definitions.specs.declared.events.Event.TheVariants.{Draw}
use Rattle.sc_definitions.specs.Events.{Rules, words}
use Rattle.sc_definitions.specs.Transcript.{before_draw}
use Rattle.sc_definitions.specs.Channels.{channel}
use Rattle.sc_challenger.specs.Parties.{Party, IsCopyOf}
use Rattle.sc_circuit.specs.declared.asked.Asked.{Asked}
use Rattle.sc_circuit.specs.declared.built.Building.{Building}
use Rattle.sc_circuit.specs.CircuitJobs.{Fields, case_by}
use Rattle.sc_circuit.specs.BuiltLayers.{BuildTask, LeavesBuilds}
use Rattle.sc_definitions.proofs.BuiltLaws.{length-challenges}
use Rattle.sc_definitions.proofs.ReplayLaws.{messages-given_rounds}
use Rattle.sc_degree.specs.declared.error.GenericDegreeError.{GenericDegreeError}
use Rattle.sc_degree.specs.declared.error.GenericDegreeError.TheVariants as errors
use Rattle.sc_soundness.specs.Differences.{Difference}
use Rattle.sc_circuit_definitions.specs.declared.gate.Gate.{Gate}
use Rattle.sc_circuit_definitions.specs.CircuitPlays.{CircuitCase, LayerStart, first_start, output_challenge, SentLayer, play_of, next_start, plays_from, merges_from, end_from, events_from, circuit_events, AreShaped, AreBuiltLayers, before_rounds}
use Rattle.sc_circuit_definitions.specs.CircuitFindings.{first_disagreement, false_output, CircuitFigures, circuit_figures}
use Rattle.sc_circuit_definitions.proofs.CircuitLaws.{history-circuit}
use Rattle.sc_circuit.specs.declared.error.CircuitError.{CircuitError}
use Rattle.sc_circuit.specs.declared.error.CircuitError.TheVariants as circuits
use Rattle.sc_circuit.specs.declared.proof.LayerProof.{LayerProof}
use Rattle.sc_circuit.specs.declared.reached.Reached.{Reached}
use Rattle.sc_circuit.specs.declared.report.CircuitReport.{CircuitReport}
use Rattle.sc_circuit.specs.declared.verdict.Replayed.{Replayed}
use Rattle.sc_circuit.specs.Options.{or_first}
use Rattle.sc_circuit.specs.Runs.{GivenLayer, layer_in, sent_of}
use Rattle.sc_circuit.specs.Shapes.{or_later}
use Rattle.sc_circuit.specs.Refusals.{told_output, layers_fault}
use Rattle.sc_circuit.specs.Steps.{IsCauseOfLayer}
use Rattle.sc_circuit.specs.Replays.{run_at, AllReplayed, RefusesLayer, LayersTask, TakesLayers, RefusesLayers, BreaksLayers, LeavesLayers}
use Rattle.sc_circuit.specs.CircuitRounds.{Unwitnessed, circuit_built, layers_refused, circuit_given, unless_fault}
use Rattle.sc_circuit.specs.CircuitReports.{given_result, built_result, task_result, result_in, wired}
use Rattle.sc_circuit.specs.CircuitAudits.{EndsWithin, EndsRefused, EndsInLayer, LeavesHistory, IsAnswered}
use Rattle.sc_circuit.specs.LuckyLayers.{AreFull}
use Rattle.sc_circuit.specs.ReplayedCircuits.{IsReplayedIn}
use Rattle.sc_circuit.proofs.GivenLaws.{whole-none, whole-count, whole-wired, refused-as}
use Rattle.sc_circuit.proofs.LayersLaws.{back-part}

-- ---- layers that came

module _ (q : CircuitCase) where
  replayed-none : (i : ℕ) (layers : List (List Gate)) (came : List GivenLayer) (at : LayerStart) → AllReplayed q layers came at → layers_refused q i layers came at ≡ None
  replayed-none i [] came at all = refl
  replayed-none i (gates ∷ layers) [] at all = refl
  replayed-none i (gates ∷ layers) (g ∷ came) at all =
      let next = next_start q layers (play_of q gates layers at (sent_of g)) in
      ap (λ e. or_later (option_map (λ x. circuits.Layer i x) e) (layers_refused q (suc i) layers came next)) (whole-none (run_at q layers at) g all.0)
      ∙ replayed-none (suc i) layers came next all.1

  refused-layer : {EF : Type 0} (number : EF → ℕ) (i : ℕ) (layers : List (List Gate)) (came : List GivenLayer) (at : LayerStart) (place : ℕ) (e : GenericDegreeError) (h' : List Event) →
      IsCauseOfLayer e → RefusesLayer number q layers came at place e h' → layers_refused q i layers came at ≡ Some (circuits.Layer (i + place) e)
  refused-layer number i [] came at place e h' cause left = absurd left
  refused-layer number i (gates ∷ layers) [] at place e h' cause left = absurd left
  refused-layer number i (gates ∷ layers) (g ∷ came) at zero e h' cause left =
      let next = next_start q layers (play_of q gates layers at (sent_of g)) in
      let here : i ≡ i + 0 = omega arith in
      ap (λ x. or_later (option_map (λ x. circuits.Layer i x) x) (layers_refused q (suc i) layers came next)) (refused-as (run_at q layers at) g number e h' cause left)
      ∙ ap (λ n. Some (circuits.Layer n e)) here
  refused-layer number i (gates ∷ layers) (g ∷ came) at (suc place) e h' cause left =
      let next = next_start q layers (play_of q gates layers at (sent_of g)) in
      let more : suc i + place ≡ i + suc place = omega arith in
      ap (λ x. or_later (option_map (λ x. circuits.Layer i x) x) (layers_refused q (suc i) layers came next)) (whole-none (run_at q layers at) g left.0)
      ∙ refused-layer number (suc i) layers came next place e h' cause left.1
      ∙ ap (λ n. Some (circuits.Layer n e)) more

  -- what a refused layer leaves
  ends-here : {EF : Type 0} (number : EF → ℕ) (layers : List (List Gate)) (g : GivenLayer) (at : LayerStart) (e : GenericDegreeError) (h' : List Event) → IsCauseOfLayer e →
      RefusesLayer number q ([] ∷ layers) (g ∷ []) at 0 e h' → EndsRefused q layers at (sent_of g).rounds e h'
  ends-here number layers g at (errors.InvalidDegree d) h' cause left = absurd (omega (arith, left.1))
  ends-here number layers g at (errors.RoundCountMismatch expected actual) h' cause left = left.1.1.1
  ends-here number layers g at (errors.PowWitnessCountMismatch expected actual) h' cause left = left.1.1.1
  ends-here number layers g at (errors.PolyEvalCountMismatch i expected actual) h' cause left = left.1.1.1.1.walked.replays.history
  ends-here number layers g at (errors.MissingPowWitness i) h' cause left = absurd left.1.1.1
  ends-here number layers g at (errors.InvalidPowWitness i) h' cause left =
      let fails = left.1.1.1.1.at in
      record {
        round = fails.round;
        is = fails.is;
        history = fails.test.history ∙ ap (λ t. t ++ before_draw q.channel.extension q.channel.bits fails.round) fails.replays.history;
      }
  ends-here number layers g at (errors.NoWitness i) h' cause left = absurd left.1.1.1
  ends-here number layers g at errors.NoMemory h' cause left = absurd cause

  ends-layer : {EF : Type 0} (number : EF → ℕ) (layers : List (List Gate)) (came : List GivenLayer) (at : LayerStart) (place : ℕ) (e : GenericDegreeError) (h' : List Event) →
      IsCauseOfLayer e → RefusesLayer number q layers came at place e h' → EndsInLayer q layers came at place e h'
  ends-layer number [] came at place e h' cause left = absurd left
  ends-layer number (gates ∷ layers) [] at place e h' cause left = absurd left
  ends-layer number (gates ∷ layers) (g ∷ came) at zero e h' cause left = ends-here number layers g at e h' cause left
  ends-layer number (gates ∷ layers) (g ∷ came) at (suc place) e h' cause left =
      ends-layer number layers came (next_start q layers (play_of q gates layers at (sent_of g))) place e h' cause left.1

  -- layers that were replayed whole have the shape of the circuit, and are what was sent, on the wire
  whole-shaped : (layers : List (List Gate)) (came : List GivenLayer) (at : LayerStart) → length came ≡ length layers → AllReplayed q layers came at → AreShaped q layers (map sent_of came)
  whole-shaped [] [] at same all = tt
  whole-shaped [] (g ∷ came) at same all = absurd (omega (arith, same))
  whole-shaped (gates ∷ layers) [] at same all = absurd (omega (arith, same))
  whole-shaped (gates ∷ layers) (g ∷ came) at same all = (
    whole-count (run_at q layers at) g all.0,
    all.0.wide,
    whole-shaped layers came (next_start q layers (play_of q gates layers at (sent_of g))) (omega (arith, same)) all.1,
  )

  pub all-wired : (layers : List (List Gate)) (came : List GivenLayer) (at : LayerStart) → length came ≡ length layers → AllReplayed q layers came at →
      came ≡ map (wired q.channel.bits) (map sent_of came)
  all-wired [] [] at same all = refl
  all-wired [] (g ∷ came) at same all = absurd (omega (arith, same))
  all-wired (gates ∷ layers) [] at same all = absurd (omega (arith, same))
  all-wired (gates ∷ layers) (g ∷ came) at same all =
      ap (λ x. x ∷ came) (whole-wired (run_at q layers at) g all.0)
      ∙ ap (λ xs. wired q.channel.bits (sent_of g) ∷ xs) (all-wired layers came (next_start q layers (play_of q gates layers at (sent_of g))) (omega (arith, same)) all.1)

  pub all-full : (layers : List (List Gate)) (came : List GivenLayer) (at : LayerStart) → length came ≡ length layers → AllReplayed q layers came at →
      AreFull (length q.inputs) layers came (map (λ p. p.challenges) (plays_from q layers (map sent_of came) at)) (merges_from q layers (map sent_of came) at)
  all-full [] came at same all = tt
  all-full (gates ∷ layers) [] at same all = absurd (omega (arith, same))
  all-full (gates ∷ layers) (g ∷ came) at same all =
      let W = All (λ values. length values ≡ 2) in (
        all.0.counted.as_rounds,
        subst W (messages-given_rounds g.wire.messages g.wire.witnesses) all.0.wide,
        length-challenges q.channel.rules q.channel.extension q.channel.bits (before_rounds q layers at) (sent_of g).rounds ∙ whole-count (run_at q layers at) g all.0,
        all-full layers came (next_start q layers (play_of q gates layers at (sent_of g))) (omega (arith, same)) all.1,
      )

-- ---- where the replay of a case begins

abbrev pub whole_task : CircuitCase → List GivenLayer → LayersTask
whole_task q came = record { case = q; layers = q.layers; came = came; at = first_start q; first = 0 }

abbrev pub task_at : CircuitCase → Rules → List Event → ℕ → List (List Gate) → ℕ → List GivenLayer → LayersTask
task_at q R h claim layers first came = record {
  case = record {
    base = q.base;
    ops = q.ops;
    embedding = q.embedding;
    channel = channel R q.channel.extension q.channel.base_size q.channel.bits;
    layers = q.layers;
    inputs = q.inputs;
    outputs = q.outputs;
    history = q.history;
  };
  layers = layers;
  came = came;
  at = record { history = h; claim = claim; weights = (first_start q).weights; drawn = (first_start q).drawn; excess = (first_start q).excess };
  first = first;
}

pub task-is : (q : CircuitCase) (R : Rules) (h : List Event) (claim : ℕ) (layers : List (List Gate)) (first : ℕ) (came : List GivenLayer) →
    R ≡ q.channel.rules → h ≡ (first_start q).history → claim ≡ (first_start q).claim → layers ≡ q.layers → first ≡ 0 →
    task_at q R h claim layers first came ≡ whole_task q came
task-is q R h claim layers first came a b c d e = rw (a, b, c, d, e) refl

-- ---- what was replayed whole

module _ {F EF : Type 0} (base : F → ℕ) (number : EF → ℕ) (q : CircuitCase) (challenge claim : EF) (layers : Vec (LayerProof F EF) Global) (old new : Reached EF) (h' : List Event) where
  abbrev came : List GivenLayer
  came = map (layer_in base number) layers.items

  abbrev pub replayed : Replayed F EF
  replayed = record { challenge = challenge; claim = claim; layers = layers; reached = new }

  module _ (takes : TakesLayers number (whole_task q came) old new h') (drawn : old.challenges.items ≡ []) (merged : old.merges.items ≡ []) where
    pub drawn-whole : map (λ rs. map number rs) new.challenges.items ≡ map (λ p. p.challenges) (plays_from q q.layers (map sent_of came) (first_start q))
    drawn-whole = takes.challenges ∙ ap (λ l. map (λ rs. map number rs) l ++ map (λ p. p.challenges) (plays_from q q.layers (map sent_of came) (first_start q))) drawn

    pub merged-whole : map number new.merges.items ≡ merges_from q q.layers (map sent_of came) (first_start q)
    merged-whole = takes.merges ∙ ap (λ l. map number l ++ merges_from q q.layers (map sent_of came) (first_start q)) merged

    pub replayed-in : length layers.items ≡ length q.layers → number challenge ≡ output_challenge q → number claim ≡ (first_start q).claim → old.disagreement ≡ None →
        IsReplayedIn base number q replayed
    replayed-in count challenge_is claim_is agreed = record {
      challenge = challenge_is;
      claim = claim_is;
      count = count;
      last = takes.claim;
      weights = takes.weights;
      challenges = drawn-whole;
      merges = merged-whole;
      disagreement = takes.disagreement ∙ ap (λ d. or_first d (first_disagreement q.ops 0 (plays_from q q.layers (map sent_of came) (first_start q)) true)) agreed;
    }

-- ---- answers

module _ (q : CircuitCase) (came : List GivenLayer) where
  -- another number of layers came
  pub counts-refused : (e : CircuitError) → layers_fault (length q.layers) (length came) ≡ Some e → task_result q (Some came) ≡ Err e
  counts-refused e is = ap (λ t. given_result q (unless_fault t (unless_fault (layers_refused q 0 q.layers came (first_start q)) (Ok (map sent_of came))))) is

  module _ (count : layers_fault (length q.layers) (length came) ≡ None) where
    given-is : circuit_given q came ≡ unless_fault (layers_refused q 0 q.layers came (first_start q)) (Ok (map sent_of came))
    given-is = ap (λ t. unless_fault t (unless_fault (layers_refused q 0 q.layers came (first_start q)) (Ok (map sent_of came)))) count

    -- they were replayed whole
    pub given-result : AllReplayed q q.layers came (first_start q) → task_result q (Some came) ≡ Ok (circuit_figures q (map sent_of came))
    given-result all =
        ap (given_result q) (given-is ∙ ap (λ t. unless_fault t (Ok (map sent_of came))) (replayed-none q 0 q.layers came (first_start q) all))

    -- one was refused
    pub given-refused : {EF : Type 0} (number : EF → ℕ) (i : ℕ) (e : GenericDegreeError) (h' : List Event) → RefusesLayers number (whole_task q came) i e h' →
        IsAnswered q (Some came) (Err (circuits.Layer i e)) h'
    given-refused number i e h' r =
        let place : i ≡ r.place = r.layer_is ∙ zero-add r.place in
        record {
          result = inr (
              ap (given_result q) (given-is ∙ ap (λ t. unless_fault t (Ok (map sent_of came))) (refused-layer q number 0 q.layers came (first_start q) r.place e h' r.cause r.refuses))
              ∙ ap (λ n. refusal_at n) (sym r.layer_is));
          history = subst (λ n. EndsInLayer q q.layers came (first_start q) n e h') (sym place) (ends-layer q number q.layers came (first_start q) r.place e h' r.cause r.refuses);
        } where
          refusal_at : ℕ → Result CircuitFigures CircuitError
          refusal_at n = Err (circuits.Layer n e)

  -- there was no memory, and a part of the transcript stands in the history
  part-of : (n : ℕ) → (h' : List Event) → h' ≡ (first_start q).history ++ take n (events_from q q.layers (map sent_of came) (first_start q)) → EndsWithin q (Some came) h'
  part-of n h' is =
      let W = words q.outputs in
      let D = replicate q.channel.extension.degree Draw in
      let E = events_from q q.layers (map sent_of came) (first_start q) in
      record {
        sent = map sent_of came;
        are = refl;
        count = length ((W ++ D) ++ take n E);
        history = is ∙ ap (λ l. l ++ take n E) (append_assoc q.history W D) ∙ append_assoc q.history (W ++ D) (take n E) ∙ ap (λ l. q.history ++ l) (back-part n (W ++ D) E);
      }

  pub broken-answered : (h' : List Event) → BreaksLayers (whole_task q came) h' → IsAnswered q (Some came) (Err circuits.NoMemory) h'
  broken-answered h' b = record { result = inl refl; history = inr (part-of b.count h' b.history) }

  pub begun-answered : (h' : List Event) → h' ≡ (first_start q).history → IsAnswered q (Some came) (Err circuits.NoMemory) h'
  begun-answered h' is = record { result = inl refl; history = inr (part-of 0 h' (is ∙ sym (append-nil _))) }

  pub ended-answered : (h' : List Event) → h' ≡ (end_from q q.layers (map sent_of came) (first_start q)).history → IsAnswered q (Some came) (Err circuits.NoMemory) h'
  ended-answered h' is = record {
    result = inl refl;
    history = inr (record {
      sent = map sent_of came;
      are = refl;
      count = length (circuit_events q (map sent_of came));
      history = is ∙ history-circuit q (map sent_of came) ∙ ap (λ l. q.history ++ l) (sym (take-length (circuit_events q (map sent_of came))));
    });
  }

  -- the replay was refused
  pub layers-answered : {EF : Type 0} (number : EF → ℕ) (T : Type 0) (old new : Reached EF) (e : CircuitError) (h' : List Event) →
      layers_fault (length q.layers) (length came) ≡ None → LeavesLayers {T = T} number (whole_task q came) old new (Err e) h' → IsAnswered q (Some came) (Err e) h'
  layers-answered number T old new (circuits.Layer i e) h' count left = given-refused count number i e h' left
  layers-answered number T old new circuits.NoMemory h' count left = broken-answered h' left
  layers-answered number T old new (circuits.Depth n) h' count left = absurd left
  layers-answered number T old new (circuits.Width j n) h' count left = absurd left
  layers-answered number T old new (circuits.Wire j n) h' count left = absurd left
  layers-answered number T old new (circuits.OutputCount j n) h' count left = absurd left
  layers-answered number T old new (circuits.Difficulty j n) h' count left = absurd left
  layers-answered number T old new (circuits.FalseOutput j x y) h' count left = absurd left
  layers-answered number T old new (circuits.LayerCount j n) h' count left = absurd left
  layers-answered number T old new (circuits.NoWitness j n) h' count left = absurd left

-- as many layers came as there are
pub counts-are : (n m : ℕ) → layers_fault n m ≡ None → m ≡ n
counts-are n m none = eqb-true _ _ (by (m == n) none) where
  by : (b : Bool) → (if b then None else Some (circuits.LayerCount n m)) ≡ None → b ≡ true
  by true is = refl
  by false is = cc

-- an error that is passed on
pub passed-on : {F EF : Type 0} (base : F → ℕ) (number : EF → ℕ) (r : Result (CircuitReport F EF) CircuitError) (e : CircuitError) → IsErrAnd r (λ x. x ≡ e) → result_in base number r ≡ Err e
passed-on base number (Ok x) e is = elim is [ ]
passed-on base number (Err x) e is = ap (λ y. Err y) is

-- ---- builds

pub false-answered : (q : CircuitCase) (e : CircuitError) → told_output (false_output q) ≡ Some e → IsAnswered q None (Err e) q.history
false-answered q e is = record {
  result = inr (ap (λ t. unless_fault t (built_result q (circuit_built q))) is);
  history = kept (false_output q) is;
} where
  kept : (d : Option Difference) → told_output d ≡ Some e → LeavesHistory q None (Err e) q.history
  kept None is = cc
  kept (Some d) is =
      let same : circuits.FalseOutput d.place d.claimed d.actual ≡ e = cc in
      subst (λ x. LeavesHistory q None (Err x) q.history) same refl

pub built-result : (q : CircuitCase) → told_output (false_output q) ≡ None → (r : Result (List SentLayer) Unwitnessed) → circuit_built q ≡ r → task_result q None ≡ built_result q r
built-result q none r is = ap (λ t. unless_fault t (built_result q (circuit_built q))) none ∙ ap (built_result q) is

-- what is asked of a copy of a challenger is what is asked of it
pub case-copied : {F : Type 0} (fs : Fields) (number : F → ℕ) (a : Asked F) (of copy : Party) → IsCopyOf of copy → case_by fs number a copy ≡ case_by fs number a of
case-copied fs number a of copy same =
    ap (λ R. case R copy.history) same.rules ∙ ap (case of.rules) same.history where
      case : Rules → List Event → CircuitCase
      case R h = case_by fs number a (record { rules = R; history = h; spare = 0 })

abbrev pub whole_build : CircuitCase → BuildTask
whole_build q = record { case = q; layers = q.layers; at = first_start q; first = 0 }

pub build-is : (q : CircuitCase) (R : Rules) (h : List Event) (claim : ℕ) (layers : List (List Gate)) (first : ℕ) →
    R ≡ q.channel.rules → h ≡ (first_start q).history → claim ≡ (first_start q).claim → layers ≡ q.layers → first ≡ 0 →
    ◌≡◌ {A = BuildTask} (record { case = (task_at q R h claim layers first []).case; layers = layers; at = (task_at q R h claim layers first []).at; first = first }) (whole_build q)
build-is q R h claim layers first a b c d e = rw (a, b, c, d, e) refl

-- a round has no witness
pub build-refused : {F EF : Type 0} (base : F → ℕ) (number : EF → ℕ) (q : CircuitCase) (T : Type 0) (old new : Building F EF) (e : CircuitError) (h' : List Event) →
    told_output (false_output q) ≡ None → LeavesBuilds {T = T} base number (whole_build q) old new (Err e) h' → IsAnswered q None (Err e) q.history
build-refused base number q T old new (circuits.NoWitness i j) h' none left = record {
  result = inr (built-result q none (Err (record { layer = i; round = j })) left);
  history = refl;
}
build-refused base number q T old new circuits.NoMemory h' none left = record { result = inl refl; history = inl refl }
build-refused base number q T old new (circuits.Depth n) h' none left = absurd left
build-refused base number q T old new (circuits.Width j n) h' none left = absurd left
build-refused base number q T old new (circuits.Wire j n) h' none left = absurd left
build-refused base number q T old new (circuits.OutputCount j n) h' none left = absurd left
build-refused base number q T old new (circuits.Difficulty j n) h' none left = absurd left
build-refused base number q T old new (circuits.FalseOutput j x y) h' none left = absurd left
build-refused base number q T old new (circuits.LayerCount j n) h' none left = absurd left
build-refused base number q T old new (circuits.Layer j e) h' none left = absurd left

-- as many layers are built as there are
pub built-count : (q : CircuitCase) (layers : List (List Gate)) (sent : List SentLayer) (at : LayerStart) → AreBuiltLayers q layers sent at → length sent ≡ length layers
built-count q [] [] at built = refl
built-count q [] (c ∷ sent) at built = absurd built
built-count q (gates ∷ layers) [] at built = absurd built
built-count q (gates ∷ layers) (c ∷ sent) at built = ap suc (built-count q layers sent (next_start q layers (play_of q gates layers at c)) built.1)
