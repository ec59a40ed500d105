-- What is promised of jobs of `circuit` is kept.
use Rattle.std.proofs.Common.{◌≡◌, ◌⊎◌, inl, inr, ℕ, ◌<◌, List, length, map, Option, Some, None, Result, Ok, Err, refl, sym, ap, subst, ◌∙◌}
use Rattle.sc_circuit_definitions.specs.CircuitPlays.{CircuitCase, IsCircuitCase, SentLayer}
use Rattle.sc_circuit_definitions.specs.CircuitFindings.{CircuitFinding, holds, refuted, lucky, CircuitFigures, circuit_figures, CertifiesCircuit, false_output}
use Rattle.sc_circuit_definitions.specs.Circuits.{top_width}
use Rattle.sc_circuit.specs.declared.error.CircuitError.{CircuitError}
use Rattle.sc_circuit.specs.declared.error.CircuitError.TheVariants as errors
use Rattle.sc_circuit.specs.Shapes.{or_later, circuit_fault}
use Rattle.sc_circuit.specs.Refusals.{output_fault, difficulty_fault, told_output}
use Rattle.sc_circuit.specs.CircuitRounds.{Unwitnessed, circuit_built, unless_fault}
use Rattle.sc_circuit.specs.CircuitReports.{GivesResult, built_result, early_fault, task_result, circuit_result, wired}
use Rattle.sc_circuit.specs.CircuitAudits.{HoldsOrLacks}
use Rattle.sc_circuit.proofs.ShapeLaws.{circuit-fits}
use Rattle.sc_circuit.proofs.AuditLaws.{outputs-fit, circuit-holds, circuit-certified}
use Rattle.sumcheck_members.specs.Elements.{sizes_of}
use Rattle.sumcheck_members.specs.Stated.{AreElements}
use Rattle.sumcheck_members.specs.declared.mode.BuildOrCheck.TheVariants.{Build}
use Rattle.sumcheck_circuit.specs.declared.job.CircuitJob.{CircuitJob}
use Rattle.sumcheck_circuit.specs.CircuitJob.{CircuitJobFits}
use Rattle.sumcheck_circuit.specs.CircuitReplies.{came_given, own_case, circuit_lines, circuit_finding_reply, figures_reply, circuit_refusal, circuit_result_reply, layers_result, circuit_judged, circuit_answer}
use Rattle.sumcheck_circuit.specs.PromisedCircuits.{HasCircuit, HasFigures, CircuitPromise, circuit_jobs}
use Rattle.sumcheck_circuit.proofs.CircuitJobLaws.{circuit_job_of-fits}
use Rattle.sumcheck_replies.specs.declared.reply.Outcome.TheVariants.{Holds, NoWitness}
use Rattle.sumcheck_replies.specs.Kinds.{IsAnswer, AreLawful}
use Rattle.sumcheck_replies.specs.Reply.{no_witness_at}
use Rattle.sumcheck_replies.proofs.FieldLaws.{fields_field, fields_base, fields_map, base-sizes-are}
use Rattle.sumcheck_replies.proofs.KindLaws.{refused-answer, proof_refused-answer, no_witness_at-answer}

-- ---- no reply is usage

refusal-answer : (bits : ℕ) (e : CircuitError) → IsAnswer (circuit_refusal bits e)
refusal-answer bits (errors.Depth layers) = refused-answer _
refusal-answer bits (errors.Width layer len) = refused-answer _
refusal-answer bits (errors.Wire layer gate) = refused-answer _
refusal-answer bits (errors.OutputCount expected actual) = refused-answer _
refusal-answer bits (errors.Difficulty b bound) = refused-answer _
refusal-answer bits (errors.FalseOutput gate claimed actual) = refused-answer _
refusal-answer bits (errors.LayerCount expected actual) = proof_refused-answer _
refusal-answer bits (errors.Layer layer e) = proof_refused-answer _
refusal-answer bits (errors.NoWitness layer round) = no_witness_at-answer _
refusal-answer bits errors.NoMemory = refused-answer _

finding-answer : (finding : CircuitFinding) (lines : List ℕ) → IsAnswer (circuit_finding_reply finding lines)
finding-answer holds lines = λ e. cc
finding-answer (refuted layer) lines = λ e. cc
finding-answer (lucky l) lines = λ e. cc

result-answer : (bits : ℕ) (r : Result CircuitFigures CircuitError) → IsAnswer (circuit_result_reply bits r)
result-answer bits (Ok f) = finding-answer f.finding _
result-answer bits (Err e) = refusal-answer bits e

circuit-answer : (job : CircuitJob) → IsAnswer (circuit_answer job)
unfolding circuit_judged
circuit-answer job = result-answer job.bits (layers_result (own_case job) (came_given job.mode) (circuit_fault job.layers (length job.inputs)))

-- ---- what is not refused is reported

job-reported : (job : CircuitJob) (f : CircuitFigures) → HasFigures job f → circuit_answer job ≡ figures_reply job.bits f
unfolding circuit_judged
job-reported job f is = ap (circuit_result_reply job.bits) is

-- ---- the case

none-first : (e later : Option CircuitError) → or_later e later ≡ None → e ≡ None
none-first None later is = refl
none-first (Some e) later is = cc

job-case : (job : CircuitJob) → CircuitJobFits (sizes_of job.field) job → HasCircuit job → early_fault (own_case job) ≡ None → IsCircuitCase (own_case job)
job-case job fits fault none =
    let below = λ (ns : List ℕ) (low : AreElements (sizes_of job.field).base ns). subst (λ s. AreElements s ns) (base-sizes-are job.field) low in
    let q = own_case job in
    record {
      base_field = fields_base job.field;
      field = fields_field job.field;
      embeds = fields_map job.field;
      circuit = circuit-fits job.layers (length job.inputs) fault;
      inputs_below = below job.inputs fits.inputs;
      outputs_below = below job.outputs fits.outputs;
      outputs_count = outputs-fit _ _ (none-first (output_fault (top_width q.layers (length q.inputs)) (length q.outputs)) (difficulty_fault q.channel.bits q.channel.rules.max_bits) none);
    }

-- ---- builds hold

gives-itself : (due : Result CircuitFigures CircuitError) → GivesResult due due
gives-itself (Ok f) = refl
gives-itself (Err e) = inr refl

built-outcome : (q : CircuitCase) (bits : ℕ) (r : Result (List SentLayer) Unwitnessed) → HoldsOrLacks bits (built_result q r) →
    ((circuit_result_reply bits (built_result q r)).outcome ≡ Holds) ⊎ ((0 < bits) × ((circuit_result_reply bits (built_result q r)).outcome ≡ NoWitness))
unfolding no_witness_at
built-outcome q bits (Ok sent) held = inl (ap (λ finding. (circuit_finding_reply finding (circuit_lines (circuit_figures q sent) (map (wired bits) (circuit_figures q sent).came))).outcome) held)
built-outcome q bits (Err s) positive = inr (positive, refl)

job-holds : (job : CircuitJob) → CircuitJobFits (sizes_of job.field) job → job.mode ≡ Build → HasCircuit job → early_fault (own_case job) ≡ None → false_output (own_case job) ≡ None →
    ((circuit_answer job).outcome ≡ Holds) ⊎ ((0 < job.bits) × ((circuit_answer job).outcome ≡ NoWitness))
unfolding circuit_judged
job-holds job fits mode fault early outputs =
    let q = own_case job in
    let came = came_given job.mode in
    let due : circuit_result q came ≡ built_result q (circuit_built q) =
    ap (λ m. circuit_result q (came_given m)) mode ∙ ap (λ t. unless_fault t (task_result q None)) early
    ∙ ap (λ t. unless_fault (told_output t) (built_result q (circuit_built q))) outputs in
    let asked : layers_result q came (circuit_fault job.layers (length job.inputs)) ≡ built_result q (circuit_built q) =
    ap (layers_result q came) fault ∙ due in
    let held = circuit-holds q (job-case job fits fault) came (circuit_result q came) (gives-itself (circuit_result q came)) early (ap came_given mode) outputs in
    subst (λ r. ((circuit_result_reply job.bits r).outcome ≡ Holds) ⊎ ((0 < job.bits) × ((circuit_result_reply job.bits r).outcome ≡ NoWitness))) (sym asked)
    (built-outcome q job.bits (circuit_built q) (subst (HoldsOrLacks job.bits) due held))

-- ---- and lucky challenges are certified

certified-by : (job : CircuitJob) → CircuitJobFits (sizes_of job.field) job → (fault : Option CircuitError) → circuit_fault job.layers (length job.inputs) ≡ fault → (f : CircuitFigures) →
    layers_result (own_case job) (came_given job.mode) fault ≡ Ok f → CertifiesCircuit (own_case job) f
certified-by job fits None fault f is = circuit-certified (own_case job) (job-case job fits fault) (came_given job.mode) (Ok f) is
certified-by job fits (Some e) fault f is = cc

job-certified : (job : CircuitJob) → CircuitJobFits (sizes_of job.field) job → (f : CircuitFigures) → HasFigures job f → CertifiesCircuit (own_case job) f
job-certified job fits f is = certified-by job fits (circuit_fault job.layers (length job.inputs)) refl f is

pub circuit-promised : (job : CircuitJob) → CircuitJobFits (sizes_of job.field) job → CircuitPromise job
circuit-promised job fits = record { reported = job-reported job; holds = job-holds job fits; certified = job-certified job fits }

pub circuit-lawful : AreLawful circuit_jobs
circuit-lawful = record { answer = circuit-answer; fit = circuit_job_of-fits; kept = circuit-promised }
