use Rattle.std.proofs.Common.{length, map, sym, refl, ap, ◌∙◌, arith}
use Rattle.std.proofs.lemmas.List.{length-map}
use Rattle.std.proofs.lemmas.Result.{IfOk-weaker}
use Rattle.std.specs.Prelude.{Ok, Err}
use Rattle.sc_openings.specs.OpeningsJobs.{fields, claim_in, claimed_in, came_in, job_of, OpeningsJob as AskedOpenings}
use Rattle.sc_openings.specs.OpeningsReports.{figures_in}
use Rattle.sumcheck_replies.specs.Fields.{Fields, fields_over}
use Rattle.sumcheck_openings.specs.OpeningsReplies.{claim_given}
use Rattle.sumcheck_openings.proofs.AskedLaws.{came-same, asked-same, judged, due-refusal}
use Rattle.sumcheck_openings.proofs.report.answer_to.Goals as goal

-- there are as many tables as the job has
pub audit_openings-requires : goal.audit_openings-requires
audit_openings-requires g c =
    let B = g.F.Field.number in
    let lists = ap (map (λ t. map B t.items)) c.deref.ensures.value ∙ c.in_ok-tables.ensures ∙ c.as_slice.ensures in
    let count = length-map c.deref.result.now (λ t. map B t.items) in
    let same = ap length lists in
    omega (arith, count, same, c.requires.some)

pub returns-in-Ok : goal.returns-in-Ok
returns-in-Ok g c =
    let B = g.F.Field.number in
    let N = g.EF.Field.number in
    let party = g.C.Challenger.party c.args.challenger.now in
    let k : Fields = fields_over g.F.Field.ops g.EF.Field.ops g.EF.ExtensionField.extension g.EF.Algebra.embedding in
    let asked : AskedOpenings =
    job_of (fields g.F.Field.ops g.EF.Field.ops g.EF.Algebra.embedding g.EF.ExtensionField.extension)
    (claimed_in B N c.args.job.variables c.deref.result.now c.deref-2.result.now) c.args.job.bits party in
    let tables = ap (map (λ t. map B t.items)) c.deref.ensures.value ∙ c.in_ok-tables.ensures ∙ c.as_slice.ensures in
    let claims = ap (map (claim_in N)) c.deref-2.ensures.value ∙ c.in_ok-claims.ensures ∙ ap (map claim_given) c.as_slice-2.ensures in
    let same = asked-same k c.args.job party.rules party.history refl tables claims refl in
    let came = came-same (came_in B N) c.as_ref.result _ _ c.as_ref.ensures.value c.in_ok-came.ensures in
    let is = judged k c.args.job party.rules party.history asked _ (Ok (figures_in B N c.in-Ok.report)) same came c.in-Ok.ensures.result in
    IfOk-weaker c.show_openings.result _ _ (λ a e. e ∙ is) c.show_openings.ensures

pub returns : goal.returns
returns g c =
    let B = g.F.Field.number in
    let N = g.EF.Field.number in
    let party = g.C.Challenger.party c.args.challenger.now in
    let k : Fields = fields_over g.F.Field.ops g.EF.Field.ops g.EF.ExtensionField.extension g.EF.Algebra.embedding in
    let asked : AskedOpenings =
    job_of (fields g.F.Field.ops g.EF.Field.ops g.EF.Algebra.embedding g.EF.ExtensionField.extension)
    (claimed_in B N c.args.job.variables c.deref.result.now c.deref-2.result.now) c.args.job.bits party in
    let tables = ap (map (λ t. map B t.items)) c.deref.ensures.value ∙ c.in_ok-tables.ensures ∙ c.as_slice.ensures in
    let claims = ap (map (claim_in N)) c.deref-2.ensures.value ∙ c.in_ok-claims.ensures ∙ ap (map claim_given) c.as_slice-2.ensures in
    let same = asked-same k c.args.job party.rules party.history refl tables claims refl in
    let came = came-same (came_in B N) c.as_ref.result _ _ c.as_ref.ensures.value c.in_ok-came.ensures in
    IfOk-weaker c.refuse_openings.result _ _
    (λ a e. e.0 ∙ judged k c.args.job party.rules party.history asked _ (Err c.in-Err.error) same came (due-refusal _ _ e.1 c.in-Err.ensures.result)) c.refuse_openings.ensures
