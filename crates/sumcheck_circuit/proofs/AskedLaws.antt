-- What the elements of a job ask is what their numbers do.
use Rattle.std.proofs.Common.{◌≡◌, ℕ, List, length, Option, Some, None, Result, Err, refl, sym, ap, ◌∙◌, ◌⊎◌, ⊎_elim}
use Rattle.std.specs.Borrow.{Bor}
use Rattle.std.specs.Option.{option_map, option_copied}
use Rattle.sc_definitions.specs.declared.events.Event.{Event}
use Rattle.sc_definitions.specs.Events.{Rules}
use Rattle.sc_definitions.specs.Channels.{channel}
use Rattle.sc_circuit_definitions.specs.declared.gate.Gate.{Gate}
use Rattle.sc_circuit_definitions.specs.CircuitPlays.{CircuitCase}
use Rattle.sc_circuit_definitions.specs.CircuitFindings.{CircuitFigures}
use Rattle.sc_circuit.specs.declared.error.CircuitError.{CircuitError}
use Rattle.sc_circuit.specs.declared.error.CircuitError.TheVariants.{NoMemory}
use Rattle.sc_circuit.specs.Runs.{GivenLayer}
use Rattle.sc_circuit.specs.Shapes.{circuit_fault}
use Rattle.sc_circuit.specs.CircuitReports.{circuit_result}
use Rattle.sumcheck_circuit.specs.declared.job.CircuitJob.{CircuitJob}
use Rattle.sumcheck_circuit.specs.CircuitReplies.{came_given, case_under, circuit_refusal, circuit_result_reply, layers_result, circuit_judged}
use Rattle.sumcheck_replies.specs.Fields.{Fields}

-- a job's case, of a circuit, inputs and outputs that are its own
pub case-same : (k : Fields) (job : CircuitJob) (R : Rules) (h : List Event) {layers : List (List Gate)} {inputs outputs : List ℕ} {bits : ℕ} →
    layers ≡ job.layers → inputs ≡ job.inputs → outputs ≡ job.outputs → bits ≡ job.bits →
    ◌≡◌ {A = CircuitCase} (record {
      base = k.base;
      ops = k.ops;
      embedding = k.embedding;
      channel = channel R k.extension k.base.size bits;
      layers = layers;
      inputs = inputs;
      outputs = outputs;
      history = h;
    }) (case_under k job R h)
case-same k job R h el ei eo eb = rw (el, ei, eo, eb) refl

-- the answer to a job whose layers are a circuit is that to its case
pub judged : (k : Fields) (job : CircuitJob) (R : Rules) (h : List Event) (q : CircuitCase) (came : Option (List GivenLayer)) (due : Result CircuitFigures CircuitError) →
    circuit_fault job.layers (length job.inputs) ≡ None → q ≡ case_under k job R h → came ≡ came_given job.mode → circuit_result q came ≡ due →
    circuit_result_reply job.bits due ≡ circuit_judged k job R h
unfolding circuit_judged
judged k job R h q came due fits is given answer =
    sym (ap (circuit_result_reply job.bits) answer) ∙ ap (λ t. circuit_result_reply job.bits (circuit_result t came)) is
    ∙ ap (λ t. circuit_result_reply job.bits (circuit_result (case_under k job R h) t)) given
    ∙ sym (ap (λ t. circuit_result_reply job.bits (layers_result (case_under k job R h) (came_given job.mode) t)) fits)

-- layers that are no circuit are refused as the job's
pub misfit-judged : (k : Fields) (job : CircuitJob) (R : Rules) (h : List Event) (e : CircuitError) →
    circuit_fault job.layers (length job.inputs) ≡ Some e → circuit_refusal job.bits e ≡ circuit_judged k job R h
unfolding circuit_judged
misfit-judged k job R h e is =
    sym (ap (λ t. circuit_result_reply job.bits (layers_result (case_under k job R h) (came_given job.mode) t)) is)

-- a refusal other than want of memory is due
pub due-refusal : (due : Result CircuitFigures CircuitError) (e : CircuitError) → (e ≡ NoMemory → ⊥) → (e ≡ NoMemory) ⊎ (due ≡ Err e) → due ≡ Err e
due-refusal due e other given = ⊎_elim (λ none. absurd (other none)) (λ is. is) given

-- what came, by a reference to it
pub came-same : {X Y : Type 0} (f : X → Y) (lent : Option (Bor X)) (came : Option X) (due : Option Y) → option_copied lent ≡ came → option_map f came ≡ due →
    option_map (λ p. f p.now) lent ≡ due
came-same f None came due is given = ap (option_map f) is ∙ given
came-same f (Some p) came due is given = ap (option_map f) is ∙ given
