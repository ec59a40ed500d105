use Rattle.std.proofs.Common.{◌≡◌, ◌<◌, List, Some, None, length, map, sym, ◌∙◌, ap, subst}
use Rattle.std.specs.Result.{result_err}
use Rattle.std.proofs.lemmas.List.{length-map}
use Rattle.sc_challenger.specs.Parties.{Party}
use Rattle.sc_definitions.specs.Tables.{entries}
use Rattle.sc_soundness.specs.Differences.{first_difference}
use Rattle.sc_circuit_definitions.specs.Circuits.{top_values, weighted_sum}
use Rattle.sc_circuit_definitions.specs.CircuitPlays.{CircuitCase, LayerStart, SentLayer, first_start, plays_from, end_from}
use Rattle.sc_circuit_definitions.specs.CircuitFindings.{circuit_figures, first_disagreement, inputs_agree}
use Rattle.sc_circuit.specs.Views.{layers_in}
use Rattle.sc_circuit.specs.Runs.{layer_in, sent_of}
use Rattle.sc_circuit.specs.Refusals.{told_output}
use Rattle.sc_circuit.specs.CircuitJobs.{fields, case_by}
use Rattle.sc_circuit.specs.CircuitReports.{finding_in}
use Rattle.sc_circuit.specs.ReplayedCircuits.{IsReplayedIn, replayed_layers, replayed_sent}
use Rattle.sc_circuit.proofs.SumLaws.{few-values, weighted-same}
use Rattle.sc_circuit.proofs.LuckLaws.{if-ok}
use Rattle.sc_circuit.proofs.VerdictLaws.{inputs-fit, top-row, finding-is, disagreement-is, outputs-hold, outputs-false}
use Rattle.sc_circuit.proofs.verdict.verdict_on.Given.{Over}
use Rattle.sc_circuit.proofs.verdict.verdict_on.Goals.{After-first_of, After-test_values}
use Rattle.sc_circuit.proofs.verdict.verdict_on.Goals as goal

pub weighted-sum-requires-clause-few : goal.weighted-sum-requires-clause-few
weighted-sum-requires-clause-few g c = few-values (length c.args.asked.now.inputs.now) (inputs-fit c.args.asked.now)

-- the case that was replayed, by who judges it, and what was sent in it
abbrev case : (g : Over) → After-first_of g → Party → CircuitCase
case g c party =
    case_by (fields g.F.Field.ops g.EF.Field.ops g.EF.Algebra.embedding g.EF.ExtensionField.extension) g.F.Field.number c.args.asked.now party

abbrev sent : (g : Over) → After-first_of g → List SentLayer
sent g c = replayed_sent g.F.Field.number g.EF.Field.number c.args.replayed.now

-- the first layer that does not agree
told : (g : Over) (c : After-first_of g) (party : Party) → IsReplayedIn g.F.Field.number g.EF.Field.number (case g c party) c.args.replayed.now →
    first_disagreement (case g c party).ops 0 (plays_from (case g c party) (case g c party).layers (sent g c) (first_start (case g c party)))
    (inputs_agree (case g c party) (end_from (case g c party) (case g c party).layers (sent g c) (first_start (case g c party)))) ≡ c.first_of.result
told g c party h =
    let B = g.F.Field.number in
    let N = g.EF.Field.number in
    let r = c.args.replayed.now in
    let q = case g c party in
    let end : LayerStart = end_from q q.layers (sent g c) (first_start q) in
    let ins = map q.embedding q.inputs in
    let many : length ins ≡ length q.inputs = length-map q.inputs q.embedding in
    let sum = c.weighted-sum.ensures ∙ ap (λ xs. weighted_sum q.ops (entries N xs) ins) c.deref.ensures.value
    ∙ weighted-same q.ops (entries N r.reached.weights.items) end.weights ins (λ b low. h.weights b (subst (λ n. b < n) many low)) in
    let count = length-map (replayed_layers B N r) sent_of ∙ length-map r.layers.items (layer_in B N) ∙ h.count in
    sym (c.first_of.ensures
    ∙ disagreement-is q (sent g c) r.reached.disagreement c.depth-depth.result (N r.reached.claim) (N c.weighted-sum.result) count h.disagreement c.depth-depth.ensures h.last sum)

-- a layer does not agree
pub returns-in-Some : goal.returns-in-Some
returns-in-Some g c = λ party h.
    let at = (goal.at.returns-in-Some g c).After-first_of in
    finding-is (case g at party) (sent g at) (Some c.in-Some.layer) (told g at party h ∙ c.in-Some.is)

-- whether an output is false, as the test tells it
tested : (g : Over) (c : After-test_values g) → result_err c.test_values.result ≡
    told_output (first_difference 0 (map g.F.Field.number c.args.asked.now.outputs.now)
    (top_values g.F.Field.ops (layers_in c.args.asked.now.circuit.now) (map g.F.Field.number c.args.asked.now.inputs.now)))
tested g c =
    let B = g.F.Field.number in
    let a = c.args.asked.now in
    let top = top-row g.F.Field.ops (λ (x : List g.row.F.Denot). map B x) c.args.values.now (layers_in a.circuit.now) (map B a.inputs.now) c.index-values-0.result c.requires.values c.index-values-0.is in
    c.test_values.ensures ∙ ap (λ xs. told_output (first_difference 0 (map B a.outputs.now) xs)) (ap (map B) c.as_slice.ensures ∙ top)

-- all agree, and the outputs are right
pub returns-then-is_ok : goal.returns-then-is_ok
returns-then-is_ok g c = λ party h.
    let at = (goal.at.returns-then-is_ok g c).After-first_of in
    let q = case g at party in
    let same = tested g (goal.at.returns-then-is_ok g c).After-test_values in
    sym (outputs-hold q (sent g at) c.test_values.result same (sym c.is_ok.ensures.value ∙ c.if-is_ok.true)) ∙ finding-is q (sent g at) None (told g at party h ∙ c.in_default.is)

-- and an output is false
pub returns : goal.returns
returns g c =
    let at = (goal.at.returns g c).After-first_of in
    let N = g.EF.Field.number in
    let same = tested g (goal.at.returns g c).After-test_values in
    if-ok _ (λ v. (p : Party) → IsReplayedIn g.F.Field.number N (case g at p) c.args.replayed.now → finding_in N v ≡ (circuit_figures (case g at p) (sent g at)).finding) c.luck_on.result
    (λ verdict is party h.
    is party h ∙ sym (outputs-false (case g at party) (sent g at) c.test_values.result same (sym c.is_ok.ensures.value ∙ c.if-is_ok.false))
    ∙ finding-is (case g at party) (sent g at) None (told g at party h ∙ c.in_default.is)) c.luck_on.ensures
