-- The reply to a command line and an input.
use Rattle.std.specs.Prelude.{◌≡◌, ℕ, List, [], ◌∷◌, map, String, string_bytes, codes, Bool, true, false, Option, Some, None, bytes_eq, if◌then◌else◌}
use Rattle.std.specs.Option.{option_map}
use Rattle.sumcheck_audit.specs.declared.job.Job.{Job}
use Rattle.sumcheck_product.specs.declared.job.ProductJob.{ProductJob}
use Rattle.sumcheck_veil.specs.declared.job.VeilJob.{VeilJob}
use Rattle.sumcheck_explain.specs.declared.job.ExplainJob.{ExplainJob}
use Rattle.sumcheck_matmul.specs.declared.job.MatmulJob.{MatmulJob}
use Rattle.sumcheck_circuit.specs.declared.job.CircuitJob.{CircuitJob}
use Rattle.sumcheck_openings.specs.declared.job.OpeningsJob.{OpeningsJob}
use Rattle.sumcheck_replies.specs.declared.reply.Outcome.TheVariants.{Holds}
use Rattle.sumcheck_replies.specs.Reply.{Reply, usage}
use Rattle.sumcheck_replies.specs.Kinds.{AnyJobs, KeepsPromise, json_reply, jobs_reply}
use Rattle.sumcheck_product.specs.CertifiedProducts.{product_jobs}
use Rattle.sumcheck_veil.specs.PromisedVeils.{veil_jobs}
use Rattle.sumcheck_explain.specs.PromisedMasks.{explain_jobs}
use Rattle.sumcheck_matmul.specs.PromisedProducts.{matmul_jobs}
use Rattle.sumcheck_circuit.specs.PromisedCircuits.{circuit_jobs}
use Rattle.sumcheck_openings.specs.PromisedOpenings.{openings_jobs}
use Rattle.sumcheck_audit.specs.CertifiedJobs.{audit_jobs}
use Rattle.sumcheck_run.specs.Words.{recipe_of}
use Rattle.sumcheck_make.specs.Made.{made_reply}
use Rattle.sumcheck_run.specs.declared.command.Kind.{Kind}
use Rattle.sumcheck_run.specs.declared.command.Kind.TheVariants.{Audit, Product, Veil, Explain, Matmul, Circuit, Openings}
use Rattle.sumcheck_run.specs.declared.command.Command.{Command}
use Rattle.sumcheck_run.specs.declared.command.Command.TheVariants.{Judge, Make}

-- ---- the kinds of jobs

-- the one that a word names
abbrev pub kind_named : List ℕ → Option Kind
kind_named w =
    if bytes_eq w (codes "audit") then Some Audit
    else (if bytes_eq w (codes "product") then Some Product
    else (if bytes_eq w (codes "veil") then Some Veil
    else (if bytes_eq w (codes "explain") then Some Explain
    else (if bytes_eq w (codes "matmul") then Some Matmul
    else (if bytes_eq w (codes "circuit") then Some Circuit
    else (if bytes_eq w (codes "openings") then Some Openings else None))))))

-- what the jobs of each are
abbrev pub jobs_of : Kind → AnyJobs
jobs_of Audit = record { Job = Job; jobs = audit_jobs }
jobs_of Product = record { Job = ProductJob; jobs = product_jobs }
jobs_of Veil = record { Job = VeilJob; jobs = veil_jobs }
jobs_of Explain = record { Job = ExplainJob; jobs = explain_jobs }
jobs_of Matmul = record { Job = MatmulJob; jobs = matmul_jobs }
jobs_of Circuit = record { Job = CircuitJob; jobs = circuit_jobs }
jobs_of Openings = record { Job = OpeningsJob; jobs = openings_jobs }

-- ---- commands

-- the command that the words are
abbrev pub command_of : List (List ℕ) → Option Command
command_of [] = None
command_of (w ∷ []) = option_map Judge (kind_named w)
command_of (w ∷ n ∷ number ∷ strategy ∷ []) = if bytes_eq w (codes "make") then option_map Make (recipe_of n number strategy) else None
command_of words = None

-- the command that a program's words are
abbrev pub command_in : {Z : Type 0} → List (String Z) → Option Command
command_in words = command_of (map string_bytes words)

abbrev pub reads_input : Option Command → Bool
reads_input None = false
reads_input (Some (Judge kind)) = true
reads_input (Some (Make recipe)) = false

-- what a command and an input are answered
abbrev pub reply_of : Option Command → List ℕ → Reply
reply_of None input = usage
reply_of (Some (Judge kind)) input = json_reply (jobs_reply (jobs_of kind).jobs) input
reply_of (Some (Make recipe)) input = made_reply recipe

-- What a command promises of an input: what jobs of its kind do; and the reply to a job that is made says that it holds.
abbrev pub CommandPromise : Command → List ℕ → Type 0
CommandPromise (Judge kind) input = KeepsPromise (jobs_of kind).jobs input
CommandPromise (Make recipe) input = (made_reply recipe).outcome ≡ Holds
