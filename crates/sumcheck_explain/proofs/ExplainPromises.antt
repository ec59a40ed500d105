-- What is replied to jobs of `explain`, and what is promised of them.
use Rattle.std.proofs.Common.{◌≡◌, ◌≢◌, ℕ, Bool, true, false, List, refl, ◌∙◌, ap, subst, if◌then◌else◌, ne_eqb, arith}
use Rattle.std.specs.Prelude.{◌==◌}
use Rattle.sc_definitions.specs.Quadratic.{pair}
use Rattle.sc_definitions.specs.Ring.{plus}
use Rattle.sc_small_fields.specs.ResiduesLaws.{residues_two}
use Rattle.sc_small_fields.specs.F257x2Laws.{f257x2_two}
use Rattle.sumcheck_members.specs.declared.job.FieldName.{FieldName}
use Rattle.sumcheck_members.specs.declared.job.FieldName.TheVariants.{F65537, F257x2, F16}
use Rattle.sumcheck_members.specs.Elements.{sizes_of}
use Rattle.sumcheck_replies.specs.Fields.{fields_of}
use Rattle.sumcheck_replies.specs.Kinds.{IsAnswer, AreLawful}
use Rattle.sumcheck_replies.specs.Reply.{refused}
use Rattle.sumcheck_replies.proofs.FieldLaws.{fields_field, sizes-are}
use Rattle.sumcheck_replies.proofs.KindLaws.{refused-answer}
use Rattle.sumcheck_explain.specs.declared.job.ExplainJob.{ExplainJob}
use Rattle.sumcheck_explain.specs.ExplainJob.{ExplainJobFits}
use Rattle.sumcheck_explain.specs.Explains.{told_reply, even_text, explain_judged, explain_answer}
use Rattle.sumcheck_explain.specs.PromisedMasks.{own_ops, own_masks, AreTold, ExplainPromise, explain_jobs}
use Rattle.sumcheck_explain.proofs.ExplainJobLaws.{explain_job_of-fits}
use Rattle.sumcheck_explain.proofs.AskedLaws.{own-explain, own-count, own-only}

-- ---- no reply is usage

tested-answer : (b : Bool) (masks : List (List ℕ)) → IsAnswer (if b then refused even_text else told_reply masks)
tested-answer true masks = refused-answer _
tested-answer false masks = λ e. cc

explain-answer : (job : ExplainJob) → IsAnswer (explain_answer job)
unfolding explain_judged
explain-answer job = tested-answer (plus (own_ops job) 1 1 == 0) (own_masks job)

-- ---- two is zero in one of the fields

two-sixteen : plus (fields_of F16).ops 1 1 ≡ 0
unfolding plus
two-sixteen = refl

two-others : (field : FieldName) → field ≢ F16 → plus (fields_of field).ops 1 1 ≢ 0
unfolding pair
two-others F65537 other = λ e. absurd (omega (arith, residues_two ∙ e))
two-others F257x2 other = λ e. absurd (omega (arith, f257x2_two ∙ e))
two-others F16 other = absurd (other refl)

sixteen-refused : (job : ExplainJob) → job.field ≡ F16 → explain_answer job ≡ refused even_text
unfolding explain_judged
sixteen-refused job is =
    let two : plus (own_ops job) 1 1 ≡ 0 = ap (λ f. plus (fields_of f).ops 1 1) is ∙ two-sixteen in
    ap (λ n. if n == 0 then refused even_text else told_reply (own_masks job)) two

others-told : (job : ExplainJob) → plus (own_ops job) 1 1 ≢ 0 → explain_answer job ≡ told_reply (own_masks job)
unfolding explain_judged
others-told job two = ap (λ b. if b then refused even_text else told_reply (own_masks job)) (ne_eqb (plus (own_ops job) 1 1) 0 two)

-- ---- the masks that are told

job-told : (job : ExplainJob) → ExplainJobFits (own_ops job).size job → job.field ≢ F16 → AreTold job (own_masks job)
job-told job fit other =
    let o = own_ops job in
    let field = fields_field job.field in
    let two = two-others job.field other in
    let told = own-explain o field two job fit in
    record {
      reply = others-told job two;
      shape = record { count = own-count o field two job fit; lists = told.0 };
      explain = record { view = told.1; ends = told.2 };
      only = λ ts shape explain. own-only o field two job fit ts shape.count shape.lists explain.view explain.ends;
    }

pub explain-promised : (job : ExplainJob) → ExplainJobFits (sizes_of job.field).extension job → ExplainPromise job
explain-promised job fits = record {
  even = sixteen-refused job;
  told = job-told job (subst (λ s. ExplainJobFits s job) (sizes-are job.field) fits);
}

pub explain-lawful : AreLawful explain_jobs
explain-lawful = record { answer = explain-answer; fit = explain_job_of-fits; kept = explain-promised }
