-- What is promised of each job of `product`.
use Rattle.std.specs.Prelude.{◌≡◌, ◌⊎◌, ℕ, ◌<◌, List, Ok, IsOk}
use Rattle.sc_definitions.specs.Transcript.{Round}
use Rattle.sc_product_audit.specs.ProductCases.{ProductTask, to_build, to_check, ProductCase, true_sum}
use Rattle.sc_product_audit.specs.ProductShapes.{product_shape, case_with}
use Rattle.sc_product_audit.specs.ProductRounds.{product_built, product_given}
use Rattle.sc_product_audit.specs.ProductReports.{ProductReported, product_figures, reported_on}
use Rattle.sc_product_audit.specs.ProductAudits.{CertifiesProduct}
use Rattle.sumcheck_members.specs.Elements.{sizes_of}
use Rattle.sumcheck_members.specs.declared.mode.BuildOrCheck.TheVariants.{Build, Check}
use Rattle.sumcheck_product.specs.ProductJob.{product_job_of, ProductJobFits}
use Rattle.sumcheck_product.specs.declared.job.ProductJob.{ProductJob}
use Rattle.sumcheck_product.specs.declared.job.ProductProof.{ProductProof}
use Rattle.sumcheck_replies.specs.declared.reply.Outcome.TheVariants.{Holds, NoWitness}
use Rattle.sumcheck_replies.specs.Kinds.{Jobs}
use Rattle.sumcheck_product.specs.Products.{proof_given, own_product, reported_reply, product_answer}

-- These rounds are played with this claimed sum: those that are built, or those of the proof.
abbrev pub ArePlayed : ProductCase → ProductTask → ℕ → List Round → Type 0
ArePlayed k to_build claimed rounds = (claimed ≡ true_sum k) × (product_built k ≡ Ok rounds)
ArePlayed k (to_check g) claimed rounds = (claimed ≡ g.claimed) × (product_given k g ≡ Ok rounds)

-- a job's case on tables of n variables
abbrev pub product_case : ProductJob → ℕ → ProductCase
product_case job n = case_with (own_product job) n

-- the report on rounds with a claimed sum
abbrev pub report_on : ProductCase → ℕ → List Round → ProductReported
report_on k claimed rounds = reported_on k (product_figures k claimed rounds)

pub record ProductPromise (job : ProductJob) : Type 0 where
  -- a job whose shape is not refused, and whose rounds can be played, is replied their report
  pub reported : (n claimed : ℕ) (rounds : List Round) → product_shape (own_product job) ≡ Ok n → ArePlayed (product_case job n) (own_product job).task claimed rounds
      → product_answer job ≡ reported_reply (report_on (product_case job n) claimed rounds)
  -- a build whose shape is not refused holds, unless a round at a difficulty has no witness
  pub holds : job.mode ≡ Build → IsOk (product_shape (own_product job))
      → ((product_answer job).outcome ≡ Holds) ⊎ ((0 < job.bits) × ((product_answer job).outcome ≡ NoWitness))
  -- Where a checked proof's residual is the product although its claimed sum is false, a round's challenge is named lucky, and certified: by a polynomial
  -- that is not zero and vanishes there, and the number of its roots.
  pub certified : (n : ℕ) (proof : ProductProof) (rounds : List Round) → job.mode ≡ Check proof → product_shape (own_product job) ≡ Ok n
      → product_given (product_case job n) (proof_given proof) ≡ Ok rounds → CertifiesProduct (product_case job n) (report_on (product_case job n) proof.claimed rounds)

-- the jobs of `product`
abbrev pub product_jobs : Jobs ProductJob
product_jobs = record {
  describes = product_job_of;
  fits = λ job. ProductJobFits (sizes_of job.field) job;
  replies = product_answer;
  promises = ProductPromise;
}
