use Rattle.std.proofs.Common.{◌≡◌, ℕ, ◌+◌, ◌-◌, ◌^◌, List, [], length, map, sym, ◌∙◌, ap, subst, arith}
use Rattle.std.specs.Prelude.{IfOk, option_map}
use Rattle.std.proofs.lemmas.List.{length-map, append-nil}
use Rattle.sc_definitions.specs.Lucky.{first_turn}
use Rattle.sc_definitions.specs.Tables.{entries, rows_of}
use Rattle.sc_degree.specs.Turns.{product_turn, messages_in}
use Rattle.sc_circuit_definitions.specs.Circuits.{gate_value, layer_variables, PlacesBelow, weighted_sum}
use Rattle.sc_circuit_definitions.specs.LayerRounds.{LayerTables, gate_tables, layer_claim, layer_course}
use Rattle.sc_circuit_definitions.proofs.LayerTruthLaws.{layer-truth}
use Rattle.sc_circuit.specs.Provers.{layer_prover}
use Rattle.sc_circuit.specs.Turns.{course_by}
use Rattle.sc_circuit.proofs.StepLaws.{lefts-below, rights-below}
use Rattle.sc_circuit.proofs.BuiltLaws.{entries-rows}
use Rattle.sc_circuit.proofs.SumLaws.{map-same}
use Rattle.sc_circuit.proofs.TurnLaws.{layer-turn}
use Rattle.sc_circuit.proofs.luck.layer_turn.Goals as goal

pub new-requires-2-clause-left : goal.new-requires-2-clause-left
new-requires-2-clause-left g c =
    lefts-below c.args.over.below _ c.args.over.gates.now c.requires.places (c.requires.width.power ∙ ap (λ n. 2 ^ n) (sym c.variables_of-k.ensures))

pub new-requires-2-clause-right : goal.new-requires-2-clause-right
new-requires-2-clause-right g c =
    rights-below c.args.over.below _ c.args.over.gates.now c.requires.places (c.requires.width.power ∙ ap (λ n. 2 ^ n) (sym c.variables_of-k.ensures))

pub returns : goal.returns
returns g c =
    let N = g.EF.Field.number in
    let o = g.EF.Field.ops in
    let k = layer_variables c.args.over.below in
    let below = entries N c.args.below.now in
    let gates = c.args.over.gates.now in
    let tables : ℕ → List g.row.EF.Denot → LayerTables = λ n ws. gate_tables o n (entries N ws) below gates in
    let p = c.in_ok-prover.prover in
    let own : LayerTables = gate_tables o p.phase.variables (entries N p.weights.now) (entries N p.below.now) p.gates.now in
    let ms = messages_in N c.args.rounds.messages.now in
    let rs = map N c.args.rounds.challenges.now in
    let claim = N c.args.begun.now.claim in
    let many : length ms ≡ k + k = length-map c.args.rounds.messages.now _ ∙ c.requires.messages in
    let whole : 0 + length ms ≡ k + k = omega (arith, many) in
    let due =
    ap (λ us. first_turn (course_by o (layer_prover o own us)) c.args.rounds.first claim ms [] rs) (ap (map N) c.in_ok-prover.ensures.drawn)
    ∙ ap (λ t. first_turn (course_by o (layer_prover o t [])) c.args.rounds.first claim ms [] rs) c.in_ok-prover.ensures.tables
    ∙ ap (λ ws. first_turn (course_by o (layer_prover o (tables c.variables_of-k.result ws) [])) c.args.rounds.first claim ms [] rs) c.as_slice-weights.ensures.value
    ∙ ap (λ n. first_turn (course_by o (layer_prover o (tables n c.args.begun.now.weights.items) [])) c.args.rounds.first claim ms [] rs) c.variables_of-k.ensures
    ∙ layer-turn o (tables k c.args.begun.now.weights.items) c.args.rounds.first claim ms [] rs whole
    ∙ ap (λ i. first_turn (layer_course o (tables k c.args.begun.now.weights.items)) i claim ms [] rs) c.requires.first in
    subst (λ x. IfOk c.turn_from.result (λ found. option_map (product_turn N) found ≡ x)) due c.turn_from.ensures

pub turn_from-requires-clause-truth : goal.turn_from-requires-clause-truth
turn_from-requires-clause-truth g c =
    let N = g.EF.Field.number in
    let o = g.EF.Field.ops in
    let ring = g.met.EF.Field.is_field.ring in
    let k = layer_variables c.args.over.below in
    let ws = c.args.begun.now.weights.items in
    let below = c.args.below.now in
    let gates = c.args.over.gates.now in
    let p = c.in_ok-prover.prover in
    let own : LayerTables = gate_tables o p.phase.variables (entries N p.weights.now) (entries N p.below.now) p.gates.now in
    let all : own.variables + own.variables ≡ (own.variables + own.variables) - 0 = omega arith in
    let tables : ℕ → List g.row.EF.Denot → LayerTables = λ n ws. gate_tables o n (entries N ws) (entries N below) gates in
    let values : map N c.deref.result.now ≡ map (gate_value o (rows_of (map N below))) gates = ap (map N) c.deref.ensures.value ∙ c.in_ok-values.ensures in
    let places = subst (λ n. PlacesBelow n gates) c.requires.width.power c.requires.places in
    c.weighted-truth.ensures
    ∙ ap (λ l. weighted_sum o (entries N l) (map (λ x. x) (map N c.deref.result.now))) c.as_slice-weights.ensures.value
    ∙ ap (weighted_sum o (entries N ws)) (map-same (map N c.deref.result.now) ∙ values)
    ∙ ap (λ v. weighted_sum o (entries N ws) (map (gate_value o v) gates)) (sym (entries-rows N below))
    ∙ sym (layer-truth o ring k gates (entries N ws) (entries N below) places)
    ∙ ap (λ n. layer_claim o (tables n ws) [] (n + n)) (sym c.variables_of-k.ensures)
    ∙ ap (λ l. layer_claim o (tables c.variables_of-k.result l) [] (c.variables_of-k.result + c.variables_of-k.result)) (sym c.as_slice-weights.ensures.value)
    ∙ ap (λ (t : LayerTables). layer_claim o t [] (t.variables + t.variables)) (sym c.in_ok-prover.ensures.tables)
    ∙ ap (layer_claim o own []) all
    ∙ ap (λ us. layer_claim o own us ((own.variables + own.variables) - length us)) (sym (ap (map N) c.in_ok-prover.ensures.drawn) ∙ sym (append-nil (map N p.drawn.items)))
