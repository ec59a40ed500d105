-- How the replies to commands end, and what the commands promise.
use Rattle.std.proofs.Common.{◌≡◌, ℕ, List, Option, Some, None, refl}
use Rattle.sumcheck_run.specs.declared.command.Kind.{Kind}
use Rattle.sumcheck_run.specs.declared.command.Kind.TheVariants.{Audit, Product, Veil, Explain, Matmul, Circuit, Openings}
use Rattle.sumcheck_run.specs.declared.command.Command.{Command}
use Rattle.sumcheck_run.specs.declared.command.Command.TheVariants.{Judge, Make}
use Rattle.sumcheck_replies.specs.Reply.{code_of, usage}
use Rattle.sumcheck_replies.specs.Kinds.{AreLawful}
use Rattle.sumcheck_replies.proofs.KindLaws.{jobs-answer, promise-kept}
use Rattle.sumcheck_product.proofs.ProductPromises.{product-lawful}
use Rattle.sumcheck_veil.proofs.VeilPromises.{veil-lawful}
use Rattle.sumcheck_explain.proofs.ExplainPromises.{explain-lawful}
use Rattle.sumcheck_matmul.proofs.MatmulPromises.{matmul-lawful}
use Rattle.sumcheck_circuit.proofs.CircuitPromises.{circuit-lawful}
use Rattle.sumcheck_openings.proofs.OpeningsPromises.{openings-lawful}
use Rattle.sumcheck_make.specs.Made.{made_asked}
use Rattle.sumcheck_run.specs.Words.{CommandFits}
use Rattle.sumcheck_run.specs.Program.{jobs_of, reply_of, CommandPromise}
use Rattle.sumcheck_audit.proofs.AuditLaws.{case-answer, audit-lawful}
use Rattle.sumcheck_make.proofs.MadeJobs.{made-holds}

-- ---- the kinds of jobs

kind-lawful : (kind : Kind) → AreLawful (jobs_of kind).jobs
kind-lawful Audit = audit-lawful
kind-lawful Product = product-lawful
kind-lawful Veil = veil-lawful
kind-lawful Explain = explain-lawful
kind-lawful Matmul = matmul-lawful
kind-lawful Circuit = circuit-lawful
kind-lawful Openings = openings-lawful

-- ---- commands

-- the status of usage comes only where there is no command
pub usage-only : (command : Option Command) (input : List ℕ) → code_of (reply_of command input).outcome ≡ 2 → command ≡ None
usage-only None input e = refl
usage-only (Some (Judge kind)) input e = absurd (jobs-answer (jobs_of kind).jobs (kind-lawful kind) input e)
usage-only (Some (Make recipe)) input e = absurd (case-answer _ (made_asked recipe) e)

-- where there is no command the status is that of usage
pub usage-code : (input : List ℕ) → code_of (reply_of None input).outcome ≡ 2
unfolding usage
usage-code input = refl

-- each command keeps what it promises
pub command-kept : (command : Command) (input : List ℕ) → CommandFits (Some command) → CommandPromise command input
command-kept (Judge kind) input fits = promise-kept (jobs_of kind).jobs (kind-lawful kind) input
command-kept (Make recipe) input fits = made-holds recipe fits
