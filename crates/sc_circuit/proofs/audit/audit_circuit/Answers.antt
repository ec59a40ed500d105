use Rattle.std.proofs.Common.{◌≡◌, Some, None, length, map, sym, ◌∙◌, ap, subst}
use Rattle.std.specs.Option.{option_map}
use Rattle.std.specs.Result.{result_err}
use Rattle.std.proofs.lemmas.List.{length-map}
use Rattle.sc_circuit_definitions.specs.Circuits.{top_width}
use Rattle.sc_circuit_definitions.specs.CircuitPlays.{CircuitCase, IsCircuitCase}
use Rattle.sc_circuit.specs.Views.{layers_in, inputs_in}
use Rattle.sc_circuit.specs.Refusals.{output_fault, difficulty_fault}
use Rattle.sc_circuit.specs.CircuitJobs.{fields, claimed_of, case_of, proof_in}
use Rattle.sc_circuit.specs.CircuitReports.{early_fault, circuit_result, GivesResult, result_in}
use Rattle.sc_circuit.proofs.AuditLaws.{case-is, answered-result, both-none, circuit-holds, circuit-certified}
use Rattle.sc_circuit.proofs.audit.audit_circuit.Given.{Over}
use Rattle.sc_circuit.proofs.audit.audit_circuit.Goals.{In_ok-test_difficulty}
use Rattle.sc_circuit.proofs.audit.audit_circuit.Goals as goal

-- the case that is asked
abbrev asked : (g : Over) → In_ok-test_difficulty g → CircuitCase
asked g c =
    let B = g.F.Field.number in
    case_of (fields g.F.Field.ops g.EF.Field.ops g.EF.Algebra.embedding g.EF.ExtensionField.extension)
    (claimed_of (layers_in c.args.circuit.now) (map B c.args.inputs.now) (map B c.args.outputs.now)) c.args.pow_bits (g.C.Challenger.party c.args.challenger.now)

is-case : (g : Over) (c : In_ok-test_difficulty g) → early_fault (asked g c) ≡ None → IsCircuitCase (asked g c)
is-case g c fits =
    case-is g.F.Field.number (fields g.F.Field.ops g.EF.Field.ops g.EF.Algebra.embedding g.EF.ExtensionField.extension) g.met.F.Field.is_field g.met.EF.Field.is_field g.met.EF.Algebra.embeds
    g.met.F.Field.number_below c.args.circuit.now c.args.inputs.now c.args.outputs.now c.args.pow_bits (g.C.Challenger.party c.args.challenger.now) c.requires fits

-- nothing is refused before a layer
early : (g : Over) (c : In_ok-test_difficulty g) → early_fault (asked g c) ≡ None
early g c =
    let B = g.F.Field.number in
    let q = asked g c in
    let outputs = ap (λ n. output_fault (top_width q.layers n) (length q.outputs)) (length-map c.args.inputs.now B ∙ c.requires)
    ∙ ap (output_fault (top_width q.layers (inputs_in c.args.circuit.now))) (length-map c.args.outputs.now B)
    ∙ ap (λ n. output_fault n (length c.args.outputs.now)) (sym c.outputs.ensures) ∙ sym c.test_outputs.ensures ∙ ap result_err c.in_ok-test_outputs.was in
    let bits = ap (difficulty_fault c.args.pow_bits) (sym c.max_bits.ensures) ∙ sym c.test_difficulty.ensures ∙ ap result_err c.in_ok-test_difficulty.was in
    both-none (output_fault (top_width q.layers (length q.inputs)) (length q.outputs)) (difficulty_fault q.channel.bits q.channel.rules.max_bits) outputs bits

pub returns-in-None-clause-holds : goal.returns-in-None-clause-holds
returns-in-None-clause-holds g c =
    let at = (goal.at.returns-in-None-clause-holds g c).In_ok-test_difficulty in
    let B = g.F.Field.number in
    let N = g.EF.Field.number in
    let q = asked g at in
    let a = answered-result q None (result_in B N c.build.result) (g.C.Challenger.party c.build.new.challenger).history (early g at) c.build.ensures.answered in
    circuit-holds q (is-case g at) _ (result_in B N c.build.result)
    (subst (λ t. GivesResult (circuit_result q t) (result_in B N c.build.result)) (sym (ap (option_map _) c.in-None.is)) a)

pub returns-in-None-clause-certified : goal.returns-in-None-clause-certified
returns-in-None-clause-certified g c =
    let at = (goal.at.returns-in-None-clause-certified g c).In_ok-test_difficulty in
    let B = g.F.Field.number in
    let N = g.EF.Field.number in
    let q = asked g at in
    let a = answered-result q None (result_in B N c.build.result) (g.C.Challenger.party c.build.new.challenger).history (early g at) c.build.ensures.answered in
    circuit-certified q (is-case g at) None (result_in B N c.build.result) a

pub returns-in-Some-clause-certified : goal.returns-in-Some-clause-certified
returns-in-Some-clause-certified g c =
    let at = (goal.at.returns-in-Some-clause-certified g c).In_ok-test_difficulty in
    let B = g.F.Field.number in
    let N = g.EF.Field.number in
    let q = asked g at in
    let came = Some (proof_in B N c.in-Some.proof.now) in
    let a = answered-result q came (result_in B N c.check.result) (g.C.Challenger.party c.check.new.challenger).history (early g at) c.check.ensures.answered in
    circuit-certified q (is-case g at) came (result_in B N c.check.result) a
