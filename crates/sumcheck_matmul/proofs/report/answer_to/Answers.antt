use Rattle.std.proofs.Common.{refl, ap, ◌∙◌}
use Rattle.std.proofs.lemmas.Result.{IfOk-weaker}
use Rattle.std.specs.Prelude.{Ok, Err}
use Rattle.sc_transcript.specs.Data.{wire_in}
use Rattle.sc_merge_definitions.specs.Matrices.{MatmulCase}
use Rattle.sc_matmul.specs.MatmulJobs.{fields, claimed_in, case_of}
use Rattle.sc_matmul.specs.MatmulReports.{figures_in}
use Rattle.sumcheck_replies.specs.Fields.{Fields, fields_over}
use Rattle.sumcheck_matmul.specs.MatmulReplies.{matrix_given}
use Rattle.sumcheck_matmul.proofs.AskedLaws.{came-same, case-same, judged, due-refusal}
use Rattle.sumcheck_matmul.proofs.report.answer_to.Goals as goal

pub returns-in-Ok : goal.returns-in-Ok
returns-in-Ok g c =
    let B = g.F.Field.number in
    let N = g.EF.Field.number in
    let party = g.C.Challenger.party c.args.challenger.now in
    let k : Fields = fields_over g.F.Field.ops g.EF.Field.ops g.EF.ExtensionField.extension g.EF.Algebra.embedding in
    let q : MatmulCase =
    case_of (fields g.F.Field.ops g.EF.Field.ops g.EF.Algebra.embedding g.EF.ExtensionField.extension) (claimed_in B c.in_ok-left.left c.in_ok-right.right c.in_ok-claimed.claimed)
    c.args.job.bits party in
    let same =
    case-same k c.args.job party.rules party.history (c.in_ok-left.ensures ∙ ap matrix_given c.as_slice.ensures) (c.in_ok-right.ensures ∙ ap matrix_given c.as_slice-2.ensures)
    (c.in_ok-claimed.ensures ∙ ap matrix_given c.as_slice-3.ensures) refl in
    let came = came-same (wire_in B N) c.as_ref.result _ _ c.as_ref.ensures.value c.in_ok-came.ensures in
    let is = judged k c.args.job party.rules party.history q _ (Ok (figures_in B N c.in-Ok.report)) same came c.in-Ok.ensures.result in
    IfOk-weaker c.show_matmul.result _ _ (λ a e. e ∙ is) c.show_matmul.ensures

pub returns : goal.returns
returns g c =
    let B = g.F.Field.number in
    let N = g.EF.Field.number in
    let party = g.C.Challenger.party c.args.challenger.now in
    let k : Fields = fields_over g.F.Field.ops g.EF.Field.ops g.EF.ExtensionField.extension g.EF.Algebra.embedding in
    let q : MatmulCase =
    case_of (fields g.F.Field.ops g.EF.Field.ops g.EF.Algebra.embedding g.EF.ExtensionField.extension) (claimed_in B c.in_ok-left.left c.in_ok-right.right c.in_ok-claimed.claimed)
    c.args.job.bits party in
    let same =
    case-same k c.args.job party.rules party.history (c.in_ok-left.ensures ∙ ap matrix_given c.as_slice.ensures) (c.in_ok-right.ensures ∙ ap matrix_given c.as_slice-2.ensures)
    (c.in_ok-claimed.ensures ∙ ap matrix_given c.as_slice-3.ensures) refl in
    let came = came-same (wire_in B N) c.as_ref.result _ _ c.as_ref.ensures.value c.in_ok-came.ensures in
    IfOk-weaker c.refuse_matmul.result _ _
    (λ a e. e.0 ∙ judged k c.args.job party.rules party.history q _ (Err c.in-Err.error) same came (due-refusal _ _ e.1 c.in-Err.ensures.result)) c.refuse_matmul.ensures
