use Rattle.std.proofs.Common.{map, sym, refl, ap, ◌∙◌}
use Rattle.std.proofs.lemmas.Result.{IfOk-weaker}
use Rattle.std.specs.Prelude.{Ok, Err}
use Rattle.sc_circuit_definitions.specs.CircuitPlays.{CircuitCase}
use Rattle.sc_circuit.specs.CircuitJobs.{fields, claimed_of, case_of, proof_in}
use Rattle.sc_circuit.specs.CircuitReports.{figures_in}
use Rattle.sc_circuit.specs.Shapes.{circuit_fault}
use Rattle.sc_circuit.specs.Views.{layers_in}
use Rattle.sumcheck_replies.specs.Fields.{Fields, fields_over}
use Rattle.sumcheck_circuit.specs.CircuitReplies.{shown_reply}
use Rattle.sumcheck_circuit.proofs.AskedLaws.{came-same, case-same, judged, misfit-judged, due-refusal}
use Rattle.sumcheck_circuit.proofs.report.answer_to.Goals as goal

pub returns-in-Err : goal.returns-in-Err
returns-in-Err g c =
    let party = g.C.Challenger.party c.args.challenger.now in
    let k : Fields = fields_over g.F.Field.ops g.EF.Field.ops g.EF.ExtensionField.extension g.EF.Algebra.embedding in
    let same = c.in_ok-layers.ensures ∙ c.as_slice.ensures in
    let fault = sym (ap (λ layers. circuit_fault layers c.len.result) same ∙ ap (circuit_fault c.args.job.layers) c.len.ensures) ∙ c.in-Err.ensures in
    IfOk-weaker c.refuse_circuit.result _ _ (λ a e. e.0 ∙ misfit-judged k c.args.job party.rules party.history c.in-Err.error fault) c.refuse_circuit.ensures

pub returns-in-Ok-audit_circuit : goal.returns-in-Ok-audit_circuit
returns-in-Ok-audit_circuit g c =
    let B = g.F.Field.number in
    let N = g.EF.Field.number in
    let party = g.C.Challenger.party c.args.challenger.now in
    let k : Fields = fields_over g.F.Field.ops g.EF.Field.ops g.EF.ExtensionField.extension g.EF.Algebra.embedding in
    let given = c.in_ok-layers.ensures ∙ c.as_slice.ensures in
    let fault = sym (ap (λ layers. circuit_fault layers c.len.result) given ∙ ap (circuit_fault c.args.job.layers) c.len.ensures) ∙ c.in-Ok.ensures.0 in
    let inputs = ap (map B) c.deref.ensures.value ∙ c.in_ok-inputs.ensures ∙ c.as_slice-2.ensures in
    let outputs = ap (map B) c.deref-2.ensures.value ∙ c.in_ok-outputs.ensures ∙ c.as_slice-3.ensures in
    let q : CircuitCase =
    case_of (fields g.F.Field.ops g.EF.Field.ops g.EF.Algebra.embedding g.EF.ExtensionField.extension)
    (claimed_of (layers_in c.in-Ok.circuit) (map B c.deref.result.now) (map B c.deref-2.result.now)) c.args.job.bits party in
    let same = case-same k c.args.job party.rules party.history (c.in-Ok.ensures.1 ∙ given) inputs outputs refl in
    let came = came-same (proof_in B N) c.as_ref.result _ _ c.as_ref.ensures.value c.in_ok-came.ensures in
    let is = judged k c.args.job party.rules party.history q _ (Ok (figures_in B N c.in-Ok-audit_circuit.report)) fault same came c.in-Ok-audit_circuit.ensures.result in
    IfOk-weaker c.show_circuit.result _ _ (λ a e. e ∙ ap (shown_reply (figures_in B N c.in-Ok-audit_circuit.report)) c.in-Ok-audit_circuit.ensures.shown ∙ is) c.show_circuit.ensures

pub returns : goal.returns
returns g c =
    let B = g.F.Field.number in
    let N = g.EF.Field.number in
    let party = g.C.Challenger.party c.args.challenger.now in
    let k : Fields = fields_over g.F.Field.ops g.EF.Field.ops g.EF.ExtensionField.extension g.EF.Algebra.embedding in
    let given = c.in_ok-layers.ensures ∙ c.as_slice.ensures in
    let fault = sym (ap (λ layers. circuit_fault layers c.len.result) given ∙ ap (circuit_fault c.args.job.layers) c.len.ensures) ∙ c.in-Ok.ensures.0 in
    let inputs = ap (map B) c.deref.ensures.value ∙ c.in_ok-inputs.ensures ∙ c.as_slice-2.ensures in
    let outputs = ap (map B) c.deref-2.ensures.value ∙ c.in_ok-outputs.ensures ∙ c.as_slice-3.ensures in
    let q : CircuitCase =
    case_of (fields g.F.Field.ops g.EF.Field.ops g.EF.Algebra.embedding g.EF.ExtensionField.extension)
    (claimed_of (layers_in c.in-Ok.circuit) (map B c.deref.result.now) (map B c.deref-2.result.now)) c.args.job.bits party in
    let same = case-same k c.args.job party.rules party.history (c.in-Ok.ensures.1 ∙ given) inputs outputs refl in
    let came = came-same (proof_in B N) c.as_ref.result _ _ c.as_ref.ensures.value c.in_ok-came.ensures in
    IfOk-weaker c.refuse_circuit-in-Err-audit_circuit.result _ _
    (λ a e. e.0 ∙ judged k c.args.job party.rules party.history q _ (Err c.in-Err-audit_circuit.error) fault same came (due-refusal _ _ e.1 c.in-Err-audit_circuit.ensures.result))
    c.refuse_circuit-in-Err-audit_circuit.ensures
