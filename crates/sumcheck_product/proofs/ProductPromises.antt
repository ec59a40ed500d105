-- What is promised of jobs of `product` is kept.
use Rattle.std.proofs.Common.{◌≡◌, ◌⊎◌, inl, inr, ℕ, ◌<◌, List, Result, Ok, Err, refl, sym, ap, subst, ◌∙◌}
use Rattle.std.specs.Prelude.{IsOk}
use Rattle.sc_definitions.specs.Transcript.{Round}
use Rattle.sc_product_audit.specs.declared.error.ProductError.{ProductError}
use Rattle.sc_product_audit.specs.declared.error.ProductError.TheVariants as errors
use Rattle.sc_product_audit.specs.ProductCases.{ProductTask, to_build, to_check, ProductCase, true_sum}
use Rattle.sc_product_audit.specs.ProductShapes.{product_shape}
use Rattle.sc_product_audit.specs.ProductRounds.{product_built, product_given}
use Rattle.sc_product_audit.specs.ProductReports.{ProductReported, given_result, built_result, task_result, product_result}
use Rattle.sc_product_audit.specs.ProductAudits.{CertifiesProduct, HoldsOrLacks}
use Rattle.sc_product_audit.proofs.ResultLaws.{case-is, result-is, product-holds, ClaimsElement, product-certified, gives-itself}
use Rattle.sumcheck_members.specs.Elements.{sizes_of}
use Rattle.sumcheck_members.specs.Modes.{CheckFits}
use Rattle.sumcheck_members.specs.declared.job.Sizes.{Sizes}
use Rattle.sumcheck_members.specs.declared.mode.BuildOrCheck.{BuildOrCheck}
use Rattle.sumcheck_members.specs.declared.mode.BuildOrCheck.TheVariants.{Build, Check}
use Rattle.sumcheck_product.specs.declared.job.ProductProof.{ProductProof}
use Rattle.sumcheck_product.specs.declared.job.ProductJob.{ProductJob}
use Rattle.sumcheck_product.specs.ProductJob.{ProductProofFits, ProductJobFits}
use Rattle.sumcheck_product.specs.Products.{proof_given, task_given, own_product, product_lines, reported_reply, product_refusal, result_reply, product_judged, product_answer}
use Rattle.sumcheck_product.specs.CertifiedProducts.{ArePlayed, product_case, report_on, ProductPromise, product_jobs}
use Rattle.sumcheck_product.proofs.ProductJobLaws.{product_job_of-fits}
use Rattle.sumcheck_replies.specs.declared.reply.Outcome.TheVariants.{Holds, NoWitness}
use Rattle.sumcheck_replies.specs.Fields.{fields_of}
use Rattle.sumcheck_replies.specs.Kinds.{IsAnswer, AreLawful}
use Rattle.sumcheck_replies.specs.Refusals.{finding_reply}
use Rattle.sumcheck_replies.specs.Reply.{no_witness_at}
use Rattle.sumcheck_replies.proofs.FieldLaws.{fields_field, sizes-are}
use Rattle.sumcheck_replies.proofs.KindLaws.{refused-answer, proof_refused-answer, no_witness-answer, finding-answer}

-- ---- no reply is usage

refusal-answer : (e : ProductError) → IsAnswer (product_refusal e)
refusal-answer (errors.TableLength len) = refused-answer _
refusal-answer (errors.TableCount tables bound) = refused-answer _
refusal-answer (errors.Difficulty bits bound) = refused-answer _
refusal-answer (errors.RoundCountMismatch expected actual) = proof_refused-answer _
refusal-answer (errors.PowWitnessCountMismatch expected actual) = proof_refused-answer _
refusal-answer (errors.PolyEvalCountMismatch round expected actual) = proof_refused-answer _
refusal-answer (errors.InvalidPowWitness round bits) = proof_refused-answer _
refusal-answer (errors.NoWitness round) = no_witness-answer round
refusal-answer errors.NoMemory = refused-answer _

result-answer : (r : Result ProductReported ProductError) → IsAnswer (result_reply r)
result-answer (Ok r) = finding-answer r.finding (product_lines r.figures)
result-answer (Err e) = refusal-answer e

product-answer : (job : ProductJob) → IsAnswer (product_answer job)
unfolding product_judged
product-answer job = result-answer (product_result (own_product job))

-- ---- rounds that can be played are reported

task-reported : (k : ProductCase) (task : ProductTask) (claimed : ℕ) (rounds : List Round) → ArePlayed k task claimed rounds →
    task_result k task ≡ Ok (report_on k claimed rounds)
task-reported k to_build claimed rounds played =
    ap (built_result k) played.1 ∙ ap (λ c. Ok (report_on k c rounds)) (sym played.0)
task-reported k (to_check g) claimed rounds played =
    ap (given_result k g.claimed) played.1 ∙ ap (λ c. Ok (report_on k c rounds)) (sym played.0)

job-reported : (job : ProductJob) (n claimed : ℕ) (rounds : List Round) → product_shape (own_product job) ≡ Ok n → ArePlayed (product_case job n) (own_product job).task claimed rounds →
    product_answer job ≡ reported_reply (report_on (product_case job n) claimed rounds)
unfolding product_judged
job-reported job n claimed rounds shape played =
    ap result_reply (result-is (own_product job) n shape ∙ task-reported (product_case job n) (own_product job).task claimed rounds played)

-- ---- builds hold

built-outcome : (k : ProductCase) (bits : ℕ) (r : Result (List Round) ℕ) → HoldsOrLacks bits (built_result k r) →
    ((result_reply (built_result k r)).outcome ≡ Holds) ⊎ ((0 < bits) × ((result_reply (built_result k r)).outcome ≡ NoWitness))
unfolding no_witness_at
built-outcome k bits (Ok rounds) held =
    inl (ap (λ finding. (finding_reply finding (product_lines (report_on k (true_sum k) rounds).figures)).outcome) held)
built-outcome k bits (Err i) positive = inr (positive, refl)

shaped-holds : (job : ProductJob) (shape : Result ℕ ProductError) → product_shape (own_product job) ≡ shape → job.mode ≡ Build → IsOk shape →
    ((product_answer job).outcome ≡ Holds) ⊎ ((0 < job.bits) × ((product_answer job).outcome ≡ NoWitness))
unfolding product_judged
shaped-holds job (Err e) is mode none = cc
shaped-holds job (Ok n) is mode ok =
    let q = own_product job in
    let k = product_case job n in
    let due : product_result q ≡ built_result k (product_built k) = result-is q n is ∙ ap (λ m. task_result k (task_given m)) mode in
    let held = product-holds q (fields_field job.field) (product_result q) (gives-itself (product_result q)) n is (ap task_given mode) in
    subst (λ r. ((result_reply r).outcome ≡ Holds) ⊎ ((0 < job.bits) × ((result_reply r).outcome ≡ NoWitness))) (sym due)
    (built-outcome k job.bits (product_built k) (subst (HoldsOrLacks job.bits) due held))

job-holds : (job : ProductJob) → job.mode ≡ Build → IsOk (product_shape (own_product job)) →
    ((product_answer job).outcome ≡ Holds) ⊎ ((0 < job.bits) × ((product_answer job).outcome ≡ NoWitness))
job-holds job mode ok = shaped-holds job (product_shape (own_product job)) refl mode ok

-- ---- and lucky challenges are certified

claims-element : (sizes : Sizes) (size : ℕ) → sizes.extension ≡ size → (mode : BuildOrCheck ProductProof) → CheckFits (ProductProofFits sizes) mode → ClaimsElement size (task_given mode)
claims-element sizes size same Build fits = tt
claims-element sizes size same (Check proof) fits = subst (λ s. proof.claimed < s) same fits.claimed

job-certified : (job : ProductJob) → ProductJobFits (sizes_of job.field) job → (n : ℕ) (proof : ProductProof) (rounds : List Round) → job.mode ≡ Check proof →
    product_shape (own_product job) ≡ Ok n → product_given (product_case job n) (proof_given proof) ≡ Ok rounds →
    CertifiesProduct (product_case job n) (report_on (product_case job n) proof.claimed rounds)
job-certified job fits n proof rounds mode shape played =
    let q = own_product job in
    let k = product_case job n in
    let is : product_result q ≡ Ok (report_on k proof.claimed rounds) =
    result-is q n shape ∙ ap (λ m. task_result k (task_given m)) mode ∙ ap (given_result k proof.claimed) played in
    let low = claims-element (sizes_of job.field) (fields_of job.field).ops.size (sizes-are job.field) job.mode fits.mode in
    subst (λ c. CertifiesProduct c (report_on k proof.claimed rounds)) (case-is q n shape)
    (product-certified q (fields_field job.field) low (report_on k proof.claimed rounds) is)

pub product-promised : (job : ProductJob) → ProductJobFits (sizes_of job.field) job → ProductPromise job
product-promised job fits = record { reported = job-reported job; holds = job-holds job; certified = job-certified job fits }

pub product-lawful : AreLawful product_jobs
product-lawful = record { answer = product-answer; fit = product_job_of-fits; kept = product-promised }
