use Rattle.std.proofs.Common.{◌≡◌, ℕ, ◌-◌, ◌<◌, List, length, map, take, drop, sym, ◌∙◌, ap, subst, arith}
use Rattle.std.proofs.lemmas.List.{length-map}
use Rattle.sc_challenger.specs.Parties.{Party}
use Rattle.sc_definitions.specs.Ring.{power}
use Rattle.sc_definitions.specs.Polynomials.{poly_minus}
use Rattle.sc_soundness.specs.Stages.{stages_luck}
use Rattle.sc_circuit_definitions.specs.Circuits.{top_values, top_width, IsCircuit}
use Rattle.sc_circuit.specs.declared.proof.LayerProof.{LayerProof}
use Rattle.sc_circuit_definitions.specs.CircuitPlays.{CircuitCase, LayerStart, SentLayer, first_start, plays_from, merges_from}
use Rattle.sc_circuit_definitions.specs.CircuitFindings.{named}
use Rattle.sc_circuit.specs.Views.{layers_in, inputs_in}
use Rattle.sc_circuit.specs.Runs.{layer_in, sent_of}
use Rattle.sc_circuit.specs.Stacks.{stack_layers}
use Rattle.sc_circuit.specs.CircuitJobs.{Fields, fields, case_by}
use Rattle.sc_circuit.specs.CircuitReports.{finding_in}
use Rattle.sc_circuit.specs.BuiltLayers.{lower_values, HasWidths}
use Rattle.sc_circuit.specs.ReplayedCircuits.{IsReplayedIn, replayed_luck}
use Rattle.sc_circuit.proofs.EvaluationLaws.{top-length}
use Rattle.sc_circuit.proofs.LuckLaws.{if-ok, stages_from}
use Rattle.sc_circuit.proofs.VerdictLaws.{asked-fits, asked-case, top-row, lower-rows, widths-are}
use Rattle.sc_circuit.proofs.verdict.luck_on.Given.{Over}
use Rattle.sc_circuit.proofs.verdict.luck_on.Goals.{After-deref-2}
use Rattle.sc_circuit.proofs.verdict.luck_on.Goals as goal

abbrev view : (g : Over) → List g.row.F.Denot → List ℕ
view g = λ r. map g.F.Field.number r

-- the first row of the values is that of the outputs, and the others are those of the layers below
top : (g : Over) (c : After-deref-2 g) →
    view g c.index-values-0.result ≡ top_values g.F.Field.ops (layers_in c.args.asked.now.circuit.now) (map g.F.Field.number c.args.asked.now.inputs.now)
top g c =
    let a = c.args.asked.now in
    top-row g.F.Field.ops (view g) c.args.values.now (layers_in a.circuit.now) (map g.F.Field.number a.inputs.now) c.index-values-0.result c.requires.values c.index-values-0.is

abbrev rows-below : (g : Over) → After-deref-2 g → List (List g.row.F.Denot)
rows-below g c = take (length c.args.values.now - 1) (drop 1 c.args.values.now)

lower : (g : Over) (c : After-deref-2 g) →
    map (view g) (rows-below g c) ≡ lower_values g.F.Field.ops (layers_in c.args.asked.now.circuit.now) (map g.F.Field.number c.args.asked.now.inputs.now)
lower g c =
    let a = c.args.asked.now in
    lower-rows g.F.Field.ops (view g) c.args.values.now (layers_in a.circuit.now) (map g.F.Field.number a.inputs.now) c.index-values-0.result c.requires.values c.index-values-0.is

inputs-are : (g : Over) (c : After-deref-2 g) → length (map g.F.Field.number c.args.asked.now.inputs.now) ≡ inputs_in c.args.asked.now.circuit.now
inputs-are g c = length-map c.args.asked.now.inputs.now g.F.Field.number ∙ c.args.asked.now.inputs_fit

-- it has as many values as there are outputs
width : (g : Over) (c : After-deref-2 g) → length c.index-values-0.result ≡ top_width (layers_in c.args.asked.now.circuit.now) (inputs_in c.args.asked.now.circuit.now)
width g c =
    let L = layers_in c.args.asked.now.circuit.now in
    sym (length-map c.index-values-0.result g.F.Field.number) ∙ ap length (top g c) ∙ top-length g.F.Field.ops L (map g.F.Field.number c.args.asked.now.inputs.now) ∙ ap (top_width L) (inputs-are g c)

-- as many images as outputs
pub difference-requires : goal.difference-requires
difference-requires g c =
    let at = (goal.at.difference-requires g c).After-deref-2 in
    let B = g.F.Field.number in
    let N = g.EF.Field.number in
    let a = c.args.asked.now in
    let first : length c.deref.result.now ≡ length a.outputs.now =
    ap length c.deref.ensures.value ∙ sym (length-map c.in_ok-claimed.claimed.items N) ∙ ap length c.in_ok-claimed.ensures
    ∙ length-map (map B a.outputs.now) g.EF.Algebra.embedding ∙ length-map a.outputs.now B in
    let second : length c.deref-2.result.now ≡ length c.index-values-0.result =
    ap length c.deref-2.ensures.value ∙ sym (length-map c.in_ok-true_ones.true_ones.items N) ∙ ap length c.in_ok-true_ones.ensures
    ∙ length-map (map B c.as_slice-actual.result.now) g.EF.Algebra.embedding ∙ ap (λ xs. length (map B xs)) c.as_slice-actual.ensures ∙ length-map c.index-values-0.result B in
    let wide = width g at in
    omega (arith, first, second, wide, a.outputs_fit)

pub luck_from-requires-clause-circuit : goal.luck_from-requires-clause-circuit
luck_from-requires-clause-circuit g c =
    subst (λ n. IsCircuit (stack_layers c.stack.result) n) (sym c.stack.ensures.inputs)
    (subst (λ ls. IsCircuit ls (inputs_in c.args.asked.now.circuit.now)) (sym c.stack.ensures.layers) (asked-fits c.args.asked.now))

pub luck_from-requires-clause-values : goal.luck_from-requires-clause-values
luck_from-requires-clause-values g c =
    ap length c.as_slice-actual.ensures ∙ width g (goal.at.luck_from-requires-clause-values g c).After-deref-2
    ∙ ap (λ ls. top_width ls (inputs_in c.args.asked.now.circuit.now)) (sym c.stack.ensures.layers) ∙ ap (top_width (stack_layers c.stack.result)) (sym c.stack.ensures.inputs)

pub luck_from-requires-clause-widths : goal.luck_from-requires-clause-widths
luck_from-requires-clause-widths g c =
    let at = (goal.at.luck_from-requires-clause-widths g c).After-deref-2 in
    let a = c.args.asked.now in
    let B = g.F.Field.number in
    let ins = map B a.inputs.now in
    let ns = map (λ (r : List g.row.F.Denot). length r) (rows-below g at) in
    subst (λ n. HasWidths (stack_layers c.stack.result) n ns) (inputs-are g at ∙ sym c.stack.ensures.inputs)
    (subst (λ ls. HasWidths ls (length ins) ns) (sym c.stack.ensures.layers) (widths-are g.F.Field.ops B (rows-below g at) (layers_in a.circuit.now) ins (lower g at)))

pub luck_from-requires-clause-weights : goal.luck_from-requires-clause-weights
luck_from-requires-clause-weights g c =
    c.in_ok-power_weights.ensures.len ∙ c.args.asked.now.outputs_fit ∙ sym (width g (goal.at.luck_from-requires-clause-weights g c).After-deref-2) ∙ ap length (sym c.as_slice-actual.ensures)

pub returns : goal.returns
returns g c =
    let B = g.F.Field.number in
    let N = g.EF.Field.number in
    let a = c.args.asked.now in
    let o = g.F.Field.ops in
    let L = layers_in a.circuit.now in
    let ins = map B a.inputs.now in
    let before = (goal.at.returns g c).After-deref-2 in
    let fs : Fields = fields g.F.Field.ops g.EF.Field.ops g.EF.Algebra.embedding g.EF.ExtensionField.extension in
    let r = c.args.replayed.now in
    if-ok _ (λ v. (p : Party) → IsReplayedIn B N (case_by fs B a p) r → finding_in N v ≡ named (replayed_luck B N (case_by fs B a p) r)) c.luck_from.result (λ verdict is party h.
    let q : CircuitCase = case_by fs B a party in
    let at : LayerStart = first_start q in
    let S = stack_layers c.stack.result in
    let sent : List (LayerProof g.row.F.Denot g.row.EF.Denot) → List SentLayer = λ xs. map sent_of (map (layer_in B N) xs) in
    let e = g.EF.Algebra.embedding in
    let came = c.as_slice.ensures.value in
    let case = asked-case B fs g.met.F.Field.is_field g.met.EF.Field.is_field g.met.EF.Algebra.embeds g.met.F.Field.number_below a party in
    let values = ap (map B) c.as_slice-actual.ensures ∙ top g before in
    let many : length c.as_slice-actual.result.now ≡ length a.outputs.now =
    ap length c.as_slice-actual.ensures ∙ width g before ∙ sym a.outputs_fit in
    is q at
    (record {
      case = case;
      inputs = inputs-are g before ∙ sym c.stack.ensures.inputs;
      values = values ∙ ap (λ ls. top_values o ls ins) (sym c.stack.ensures.layers);
      below = lower g before ∙ ap (λ ls. lower_values o ls ins) (sym c.stack.ensures.layers);
      challenges = ap (map (λ rs. map N rs)) c.as_slice-2.ensures.value ∙ h.challenges
          ∙ ap (λ xs. map (λ p. p.challenges) (plays_from q L (sent xs) at)) (sym came)
          ∙ ap (λ ls. map (λ p. p.challenges) (plays_from q ls (sent c.as_slice.result.now) at)) (sym c.stack.ensures.layers);
      merges = ap (map N) c.as_slice-3.ensures.value ∙ h.merges
          ∙ ap (λ xs. merges_from q L (sent xs) at) (sym came)
          ∙ ap (λ ls. merges_from q ls (sent c.as_slice.result.now) at) (sym c.stack.ensures.layers);
      claim = h.claim;
      weights = λ b low. c.in_ok-power_weights.ensures.powers b (subst (λ n. b < n) many low) ∙ ap (λ x. power q.ops x b) h.challenge;
      excess = c.in_ok-difference.ensures
          ∙ ap (λ xs. poly_minus q.ops (map N xs) (map N c.deref-2.result.now)) c.deref.ensures.value
          ∙ ap (λ xs. poly_minus q.ops (map N c.in_ok-claimed.claimed.items) (map N xs)) c.deref-2.ensures.value
          ∙ ap (λ xs. poly_minus q.ops xs (map N c.in_ok-true_ones.true_ones.items)) c.in_ok-claimed.ensures
          ∙ ap (poly_minus q.ops (map e (map B a.outputs.now))) (c.in_ok-true_ones.ensures ∙ ap (map e) values);
    })
    ∙ ap named (
    ap (λ n. stages_luck q.ops n (stages_from q S (sent c.as_slice.result.now) at)) c.stack.ensures.first
    ∙ ap (λ ls. stages_luck q.ops 0 (stages_from q ls (sent c.as_slice.result.now) at)) c.stack.ensures.layers
    ∙ ap (λ xs. stages_luck q.ops 0 (stages_from q L (sent xs) at)) came)) c.luck_from.ensures
