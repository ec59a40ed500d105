use Rattle.std.proofs.Common.{◌≡◌, ℕ, ◌-◌, List, [], ◌++◌, None, length, map, take, drop, sym, ◌∙◌, ap, subst, arith}
use Rattle.std.specs.Prelude.{Ok, Err}
use Rattle.std.specs.Result.{result_err}
use Rattle.std.proofs.lemmas.List.{length-map}
use Rattle.sc_definitions.specs.Ring.{power}
use Rattle.sc_definitions.specs.Statements.{batched_by_powers}
use Rattle.sc_definitions.specs.Tables.{entries}
use Rattle.sc_soundness.specs.Differences.{first_difference}
use Rattle.sc_circuit_definitions.specs.Circuits.{all_values, top_width, IsCircuit}
use Rattle.sc_circuit_definitions.specs.CircuitPlays.{CircuitCase, LayerStart, first_start, output_challenge, circuit_events}
use Rattle.sc_circuit_definitions.specs.CircuitFindings.{false_output}
use Rattle.sc_circuit_definitions.proofs.CircuitLaws.{history-circuit}
use Rattle.sc_circuit.specs.declared.built.Building.{Building}
use Rattle.sc_definitions.specs.declared.events.Event.{Event}
use Rattle.sc_circuit.specs.Views.{layers_in, inputs_in}
use Rattle.sc_circuit.specs.Runs.{layer_in, sent_of}
use Rattle.sc_circuit.specs.Refusals.{told_output}
use Rattle.sc_circuit.specs.Steps.{AreSame}
use Rattle.sc_circuit.specs.Replays.{TakesLayers}
use Rattle.sc_circuit.specs.Stacks.{stack_layers, IsReachedBy}
use Rattle.sc_circuit.specs.BuiltLayers.{lower_values, HasWidths, BuildTask, BuildsLayers, LeavesBuilds}
use Rattle.sc_circuit.specs.CircuitJobs.{fields, case_by}
use Rattle.sc_circuit.specs.CircuitReports.{wired}
use Rattle.sc_circuit.specs.CircuitAudits.{IsAnswered}
use Rattle.sc_circuit.specs.LuckyLayers.{AreFull}
use Rattle.sc_circuit.proofs.SumLaws.{few-outputs}
use Rattle.sc_circuit.proofs.VerdictLaws.{asked-fits, top-row, lower-rows, widths-are}
use Rattle.sc_circuit.proofs.AnswerLaws.{all-wired, all-full, whole_task, whole_build, task_at, drawn-whole, merged-whole, replayed-in, built-result, build-is, build-refused, built-count, case-copied, passed-on}
use Rattle.sc_circuit.proofs.plays.build.Given.{Over}
use Rattle.sc_circuit.proofs.plays.build.Goals.{After-copy-2}
use Rattle.sc_circuit.proofs.plays.build.Goals as goal

pub begin-requires : goal.begin-requires
begin-requires g c =
    let a = c.args.asked.now in
    let few = few-outputs (layers_in a.circuit.now) (inputs_in a.circuit.now) a.circuit.now.fits in
    omega (arith, few, a.outputs_fit)

pub build_from-requires-clause-circuit : goal.build_from-requires-clause-circuit
build_from-requires-clause-circuit g c =
    subst (λ n. IsCircuit (stack_layers c.stack-stack.result) n) (sym c.stack-stack.ensures.inputs)
    (subst (λ ls. IsCircuit ls (inputs_in c.args.asked.now.circuit.now)) (sym c.stack-stack.ensures.layers) (asked-fits c.args.asked.now))

-- ---- what was evaluated

abbrev case : (g : Over) → After-copy-2 g → CircuitCase
case g c = case_by (fields g.F.Field.ops g.EF.Field.ops g.EF.Algebra.embedding g.EF.ExtensionField.extension) g.F.Field.number c.args.asked.now
    (g.C.Challenger.party c.args.challenger.now)

are-values : (g : Over) (c : After-copy-2 g) →
    map (λ (r : List g.row.F.Denot). map g.F.Field.number r) c.as_slice-values.result.now ≡ all_values g.F.Field.ops (case g c).layers (case g c).inputs
are-values g c = ap (map (λ (r : List g.row.F.Denot). map g.F.Field.number r)) c.as_slice-values.ensures.value ∙ c.in_ok-evaluated.ensures

-- the rows below the outputs
abbrev rows-below : (g : Over) → After-copy-2 g → List (List g.row.F.Denot)
rows-below g c = take (length c.as_slice-values.result.now - 1) (drop 1 c.as_slice-values.result.now)

below : (g : Over) (c : After-copy-2 g) → map (λ (r : List g.row.F.Denot). map g.F.Field.number r) (rows-below g c) ≡ lower_values g.F.Field.ops (case g c).layers (case g c).inputs
below g c =
    lower-rows g.F.Field.ops (λ (r : List g.row.F.Denot). map g.F.Field.number r) c.as_slice-values.result.now (case g c).layers (case g c).inputs c.index-values-0.result
    (are-values g c) c.index-values-0.is

-- no output is false
no-fault : (g : Over) (c : After-copy-2 g) → told_output (false_output (case g c)) ≡ None
no-fault g c =
    let view : List g.row.F.Denot → List ℕ = λ r. map g.F.Field.number r in
    let top = top-row g.F.Field.ops view c.as_slice-values.result.now (case g c).layers (case g c).inputs c.index-values-0.result (are-values g c) c.index-values-0.is in
    sym (ap (λ xs. told_output (first_difference 0 (view c.args.asked.now.outputs.now) xs)) (ap view c.as_slice.ensures ∙ top))
    ∙ sym c.test_values.ensures ∙ ap result_err c.in_ok-test_values.was

-- ---- where the layers begin

inputs-are : (g : Over) (c : After-copy-2 g) → length (case g c).inputs ≡ c.stack-stack.result.inputs
inputs-are g c = length-map c.args.asked.now.inputs.now g.F.Field.number ∙ c.args.asked.now.inputs_fit ∙ sym c.stack-stack.ensures.inputs

-- the challenge is drawn on a copy, as on the challenger itself
copied : (g : Over) (c : After-copy-2 g) →
    case_by (fields g.F.Field.ops g.EF.Field.ops g.EF.Algebra.embedding g.EF.ExtensionField.extension) g.F.Field.number c.args.asked.now (g.C.Challenger.party c.in_ok-playing.playing) ≡ case g c
copied g c =
    case-copied (fields g.F.Field.ops g.EF.Field.ops g.EF.Algebra.embedding g.EF.ExtensionField.extension) g.F.Field.number c.args.asked.now (g.C.Challenger.party c.args.challenger.now)
    (g.C.Challenger.party c.in_ok-playing.playing) c.in_ok-playing.ensures

drawn : (g : Over) (c : After-copy-2 g) → g.EF.Field.number c.in_ok-challenge.challenge ≡ output_challenge (case g c)
drawn g c = c.in_ok-challenge.ensures.drawn ∙ ap output_challenge (copied g c)

claimed : (g : Over) (c : After-copy-2 g) →
    g.EF.Field.number c.in_ok-reached.reached.claim ≡ batched_by_powers (case g c).ops (output_challenge (case g c)) 0 (map (case g c).embedding (case g c).outputs)
claimed g c = c.in_ok-reached.ensures.claim ∙ ap (λ x. batched_by_powers (case g c).ops x 0 (map (case g c).embedding (case g c).outputs)) (drawn g c)

reached : (g : Over) (c : After-copy-2 g) → IsReachedBy g.EF.Field.number (case g c) c.stack-stack.result c.in_ok-reached.reached (first_start (case g c)).weights
reached g c =
    let a = c.args.asked.now in
    let N = g.EF.Field.number in
    let q = case g c in
    let S = c.stack-stack in
    let weights : AreSame (length a.outputs.now) (entries N c.in_ok-reached.reached.weights.items) (first_start q).weights =
    λ b low. c.in_ok-reached.ensures.weights b low ∙ ap (λ x. power q.ops x b) (drawn g c) in
    let width : length a.outputs.now ≡ top_width (stack_layers S.result) S.result.inputs =
    a.outputs_fit ∙ ap (λ ls. top_width ls (inputs_in a.circuit.now)) (sym S.ensures.layers) ∙ ap (top_width (stack_layers S.result)) (sym S.ensures.inputs) in
    (inputs-are g c, subst (λ n. AreSame n (entries N c.in_ok-reached.reached.weights.items) (first_start q).weights) width weights)

below-stack : (g : Over) (c : After-copy-2 g) →
    map (λ (r : List g.row.F.Denot). map g.F.Field.number r) (rows-below g c) ≡ lower_values g.F.Field.ops (stack_layers c.stack-stack.result) (case g c).inputs
below-stack g c = below g c ∙ ap (λ ls. lower_values g.F.Field.ops ls (case g c).inputs) (sym c.stack-stack.ensures.layers)

-- the layers that are built are all of them, from there on
abbrev task : (g : Over) → After-copy-2 g → BuildTask
task g c =
    let after = g.C.Challenger.party c.draw_challenge.new.challenger in
    let S = c.stack-stack.result in
    let t = task_at (case g c) after.rules after.history (g.EF.Field.number c.in_ok-reached.reached.claim) (stack_layers S) S.first [] in
    record { case = t.case; layers = stack_layers S; at = t.at; first = S.first }

whole : (g : Over) (c : After-copy-2 g) → task g c ≡ whole_build (case g c)
whole g c =
    let q = case g c in
    let after = g.C.Challenger.party c.draw_challenge.new.challenger in
    let S = c.stack-stack in
    build-is q after.rules after.history (g.EF.Field.number c.in_ok-reached.reached.claim) (stack_layers S.result) S.result.first
    (c.in_ok-challenge.ensures.rules ∙ c.in_ok-playing.ensures.rules) (c.in_ok-challenge.ensures.after ∙ ap (λ (k : CircuitCase). (first_start k).history) (copied g c)) (claimed g c)
    S.ensures.layers S.ensures.first

abbrev begun : (g : Over) → After-copy-2 g → Building g.row.F.Denot g.row.EF.Denot
begun g c = record { built = c.new.result; reached = c.in_ok-reached.reached }

pub build_from-requires-clause-widths : goal.build_from-requires-clause-widths
build_from-requires-clause-widths g c =
    let at = (goal.at.build_from-requires-clause-widths g c).After-copy-2 in
    let S = c.stack-stack in
    let ns = map (λ (r : List g.row.F.Denot). length r) (rows-below g at) in
    subst (λ n. HasWidths (stack_layers S.result) n ns) (inputs-are g at)
    (subst (λ ls. HasWidths ls (length (case g at).inputs) ns) (sym S.ensures.layers)
    (widths-are g.F.Field.ops g.F.Field.number (rows-below g at) (case g at).layers (case g at).inputs (below g at)))

-- a round has no witness
pub returns-in_err-build_from-clause-answered : goal.returns-in_err-build_from-clause-answered
returns-in_err-build_from-clause-answered g c =
    let at = (goal.at.returns-in_err-build_from-clause-answered g c).After-copy-2 in
    let B = g.F.Field.number in
    let N = g.EF.Field.number in
    let q = case g at in
    let start : LayerStart = first_start q in
    let new = c.build_from.new.building in
    let h' = (g.C.Challenger.party c.build_from.new.challenger).history in
    let e = c.in_err-build_from.field-0.0 in
    let left = subst (λ t. LeavesBuilds {T = Unit {0}} B N t (begun g at) new (Err e) h') (whole g at)
    (c.in_err-build_from.ensures.left q start.weights start.drawn start.excess (reached g at) (below-stack g at)) in
    subst (λ x. IsAnswered q None x q.history) (sym (passed-on B N c.from_residual-in_err-build_from.result e c.from_residual-in_err-build_from.ensures.1))
    (build-refused B N q (Unit {0}) (begun g at) new e h' (no-fault g at) left)

-- ---- all layers were built

builds : (g : Over) (c : After-copy-2 g) (new : Building g.row.F.Denot g.row.EF.Denot) (h' : List Event) →
    BuildsLayers g.F.Field.number g.EF.Field.number (task g c) (begun g c) new h' → BuildsLayers g.F.Field.number g.EF.Field.number (whole_build (case g c)) (begun g c) new h'
builds g c new h' left = subst (λ t. BuildsLayers g.F.Field.number g.EF.Field.number t (begun g c) new h') (whole g c) left

-- and are the layers that a check takes
own-is : (g : Over) (c : After-copy-2 g) (new : Building g.row.F.Denot g.row.EF.Denot) (h' : List Event)
    (b : BuildsLayers g.F.Field.number g.EF.Field.number (whole_build (case g c)) (begun g c) new h') → map (layer_in g.F.Field.number g.EF.Field.number) new.built.items ≡ b.layers
own-is g c new h' b = b.appended ∙ ap (λ xs. map (layer_in g.F.Field.number g.EF.Field.number) xs ++ b.layers) c.new.ensures.items

owned : (g : Over) (c : After-copy-2 g) (new : Building g.row.F.Denot g.row.EF.Denot) (h' : List Event) →
    BuildsLayers g.F.Field.number g.EF.Field.number (whole_build (case g c)) (begun g c) new h' →
    length (map (layer_in g.F.Field.number g.EF.Field.number) new.built.items) ≡ length (case g c).layers
owned g c new h' b =
    let q = case g c in
    ap length (own-is g c new h' b) ∙ sym (length-map b.layers sent_of) ∙ built-count q q.layers (map sent_of b.layers) (first_start q) b.honest

pub report_on-requires-clause-weights : goal.report_on-requires-clause-weights
report_on-requires-clause-weights g c =
    let at = (goal.at.report_on-requires-clause-weights g c).After-copy-2 in
    let B = g.F.Field.number in
    let N = g.EF.Field.number in
    let q = case g at in
    let start : LayerStart = first_start q in
    let new = c.build_from.new.building in
    let h' = (g.C.Challenger.party c.build_from.new.challenger).history in
    let b = builds g at new h' (c.in_ok-build_from.ensures.left q start.weights start.drawn start.excess (reached g at) (below-stack g at)) in
    let own = map (layer_in B N) new.built.items in
    let taken = subst (λ xs. TakesLayers N (whole_task q xs) c.in_ok-reached.reached new.reached h') (sym (own-is g at new h' b)) b.takes in
    taken.count ∙ length-map c.args.asked.now.inputs.now B

pub report_on-requires-clause-full : goal.report_on-requires-clause-full
report_on-requires-clause-full g c =
    let at = (goal.at.report_on-requires-clause-full g c).After-copy-2 in
    let B = g.F.Field.number in
    let N = g.EF.Field.number in
    let q = case g at in
    let start : LayerStart = first_start q in
    let new = c.build_from.new.building in
    let h' = (g.C.Challenger.party c.build_from.new.challenger).history in
    let b = builds g at new h' (c.in_ok-build_from.ensures.left q start.weights start.drawn start.excess (reached g at) (below-stack g at)) in
    let own = map (layer_in B N) new.built.items in
    let taken = subst (λ xs. TakesLayers N (whole_task q xs) c.in_ok-reached.reached new.reached h') (sym (own-is g at new h' b)) b.takes in
    let chs = c.in_ok-reached.ensures.challenges in
    let mgs = c.in_ok-reached.ensures.merges in
    let old = c.in_ok-reached.reached in
    let full = all-full q q.layers own start (owned g at new h' b) taken.whole in
    let challenges_are = drawn-whole B N q c.in_ok-challenge.challenge old.claim new.built old new.reached h' taken chs mgs in
    let merges_are = merged-whole B N q c.in_ok-challenge.challenge old.claim new.built old new.reached h' taken chs mgs in
    subst (λ n. AreFull n q.layers own (map (λ rs. map N rs) new.reached.challenges.items) (map N new.reached.merges.items)) (length-map c.args.asked.now.inputs.now B ∙ c.args.asked.now.inputs_fit)
    (subst (λ xs. AreFull (length q.inputs) q.layers own xs (map N new.reached.merges.items)) (sym challenges_are) (subst (AreFull (length q.inputs) q.layers own _) (sym merges_are) full))

pub returns-clause-answered : goal.returns-clause-answered
returns-clause-answered g c =
    let at = (goal.at.returns-clause-answered g c).After-copy-2 in
    let B = g.F.Field.number in
    let N = g.EF.Field.number in
    let q = case g at in
    let start : LayerStart = first_start q in
    let new = c.build_from.new.building in
    let h' = (g.C.Challenger.party c.build_from.new.challenger).history in
    let b = builds g at new h' (c.in_ok-build_from.ensures.left q start.weights start.drawn start.excess (reached g at) (below-stack g at)) in
    let own = map (layer_in B N) new.built.items in
    let taken = subst (λ xs. TakesLayers N (whole_task q xs) c.in_ok-reached.reached new.reached h') (sym (own-is g at new h' b)) b.takes in
    let chs = c.in_ok-reached.ensures.challenges in
    let mgs = c.in_ok-reached.ensures.merges in
    let old = c.in_ok-reached.reached in
    let many : length new.built.items ≡ length q.layers = sym (length-map new.built.items (layer_in B N)) ∙ owned g at new h' b in
    let in_case = replayed-in B N q c.in_ok-challenge.challenge old.claim new.built old new.reached h' taken chs mgs many (drawn g at) (claimed g at) c.in_ok-reached.ensures.agrees in
    let shown = c.in_ok-report.ensures.figures (g.C.Challenger.party c.args.challenger.now) in_case in
    record {
      result = built-result q (no-fault g at) (Ok (map sent_of own)) (b.are ∙ ap (λ xs. Ok (map sent_of xs)) (sym (own-is g at new h' b))) ∙ ap (λ f. Ok f) (sym shown);
      history = taken.history ∙ history-circuit q (map sent_of own) ∙ ap (λ xs. q.history ++ circuit_events q (map sent_of xs)) (sym c.in_ok-report.ensures.shown);
    }

pub returns-clause-shown : goal.returns-clause-shown
returns-clause-shown g c =
    let at = (goal.at.returns-clause-shown g c).After-copy-2 in
    let B = g.F.Field.number in
    let N = g.EF.Field.number in
    let q = case g at in
    let start : LayerStart = first_start q in
    let new = c.build_from.new.building in
    let h' = (g.C.Challenger.party c.build_from.new.challenger).history in
    let b = builds g at new h' (c.in_ok-build_from.ensures.left q start.weights start.drawn start.excess (reached g at) (below-stack g at)) in
    let own = map (layer_in B N) new.built.items in
    let taken = subst (λ xs. TakesLayers N (whole_task q xs) c.in_ok-reached.reached new.reached h') (sym (own-is g at new h' b)) b.takes in
    let shown = c.in_ok-report.ensures.shown in
    shown ∙ all-wired q q.layers own start (owned g at new h' b) taken.whole ∙ ap (λ xs. map (wired c.args.asked.now.pow_bits) (map sent_of xs)) (sym shown)
