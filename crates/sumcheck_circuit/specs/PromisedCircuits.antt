-- What is promised of each job of `circuit`.
use Rattle.std.specs.Prelude.{◌≡◌, ◌⊎◌, ◌<◌, length, None, Ok}
use Rattle.sc_circuit_definitions.specs.CircuitFindings.{CircuitFigures, CertifiesCircuit, false_output}
use Rattle.sc_circuit.specs.Shapes.{circuit_fault}
use Rattle.sc_circuit.specs.CircuitReports.{early_fault}
use Rattle.sumcheck_members.specs.Elements.{sizes_of}
use Rattle.sumcheck_members.specs.declared.mode.BuildOrCheck.TheVariants.{Build}
use Rattle.sumcheck_circuit.specs.declared.job.CircuitJob.{CircuitJob}
use Rattle.sumcheck_circuit.specs.CircuitJob.{circuit_job_of, CircuitJobFits}
use Rattle.sumcheck_circuit.specs.CircuitReplies.{came_given, own_case, layers_result, figures_reply, circuit_answer}
use Rattle.sumcheck_replies.specs.declared.reply.Outcome.TheVariants.{Holds, NoWitness}
use Rattle.sumcheck_replies.specs.Kinds.{Jobs}

-- its layers are a circuit over its inputs
abbrev pub HasCircuit : CircuitJob → Type 0
HasCircuit job = circuit_fault job.layers (length job.inputs) ≡ None

-- the layers that a job asks for have these figures
abbrev pub HasFigures : CircuitJob → CircuitFigures → Type 0
HasFigures job f = layers_result (own_case job) (came_given job.mode) (circuit_fault job.layers (length job.inputs)) ≡ Ok f

pub record CircuitPromise (job : CircuitJob) : Type 0 where
  -- a job that is not refused is replied the report on the layers that it asks for
  pub reported : (f : CircuitFigures) → HasFigures job f → circuit_answer job ≡ figures_reply job.bits f
  -- a build of true outputs on a circuit, whose number and difficulty fit, holds, unless a round at a difficulty has no witness
  pub holds : job.mode ≡ Build → HasCircuit job → early_fault (own_case job) ≡ None → false_output (own_case job) ≡ None
      → ((circuit_answer job).outcome ≡ Holds) ⊎ ((0 < job.bits) × ((circuit_answer job).outcome ≡ NoWitness))
  -- Where all layers agree although an output is false, a layer is named, and a challenge of it that was lucky, and certified: by a polynomial that is not
  -- zero and vanishes there, and the number of its roots.
  pub certified : (f : CircuitFigures) → HasFigures job f → CertifiesCircuit (own_case job) f

-- the jobs of `circuit`
abbrev pub circuit_jobs : Jobs CircuitJob
circuit_jobs = record {
  describes = circuit_job_of;
  fits = λ job. CircuitJobFits (sizes_of job.field) job;
  replies = circuit_answer;
  promises = CircuitPromise;
}
