-- What a job of `circuit` is answered.
use Rattle.std.specs.Prelude.{ℕ, List, [], ◌++◌, length, map, Option, Some, None, Result, Ok, Err}
use Rattle.sc_definitions.specs.declared.events.Event.{Event}
use Rattle.sc_definitions.specs.Events.{Rules}
use Rattle.sc_definitions.specs.Channels.{channel}
use Rattle.sc_degree.specs.declared.error.GenericDegreeError.{GenericDegreeError}
use Rattle.sc_degree.specs.declared.error.GenericDegreeError.TheVariants as rounds
use Rattle.sc_circuit_definitions.specs.CircuitPlays.{CircuitCase}
use Rattle.sc_circuit_definitions.specs.CircuitFindings.{CircuitFinding, holds, refuted, lucky, CircuitFigures}
use Rattle.sc_circuit.specs.declared.error.CircuitError.{CircuitError}
use Rattle.sc_circuit.specs.declared.error.CircuitError.TheVariants.{Depth, Width, Wire, OutputCount, Difficulty, FalseOutput, LayerCount, Layer, NoWitness, NoMemory}
use Rattle.sc_circuit.specs.Runs.{GivenLayer}
use Rattle.sc_circuit.specs.Shapes.{circuit_fault}
use Rattle.sc_circuit.specs.CircuitReports.{circuit_result, wired}
use Rattle.sumcheck_members.specs.declared.mode.BuildOrCheck.{BuildOrCheck}
use Rattle.sumcheck_members.specs.declared.mode.BuildOrCheck.TheVariants.{Build, Check}
use Rattle.sumcheck_circuit.specs.declared.job.CircuitJob.{CircuitJob}
use Rattle.sumcheck_circuit.specs.declared.job.LayerGiven.{LayerGiven}
use Rattle.sumcheck_circuit.specs.CircuitJob.{CircuitJobFits}
use Rattle.sumcheck_circuit.specs.CircuitLines.{layers_lines, input_line, refuted_layer_line, lucky_layer_line, depth_text, layer_width_text, wire_text, outputs_text, false_output_text, layers_text, layer_round_text}
use Rattle.sumcheck_replies.specs.declared.reply.Outcome.TheVariants.{Holds, Refuted, Lucky}
use Rattle.sumcheck_replies.specs.Reply.{Reply, no_witness_at, proof_refused, refused}
use Rattle.sumcheck_replies.specs.Lines.{claim_line, holds_line, layer_name, difficulty_text, rounds_text, witnesses_text, width_text, witness_text}
use Rattle.sumcheck_replies.specs.Fields.{Fields, fields_of, rules_by}
use Rattle.sumcheck_replies.specs.Over.{Asks}

-- ---- what it asks

-- what a proof sends for a layer, by its numbers
abbrev pub layer_given : LayerGiven → GivenLayer
layer_given l = record { wire = record { messages = l.rounds; witnesses = l.witnesses }; left = l.left; right = l.right }

-- what came to be checked, if anything did
abbrev pub came_given : BuildOrCheck (List LayerGiven) → Option (List GivenLayer)
came_given Build = None
came_given (Check layers) = Some (map layer_given layers)

-- what a job asks, over these fields, of a challenger that answers by these rules and has this history
abbrev pub case_under : Fields → CircuitJob → Rules → List Event → CircuitCase
case_under k job R h = record {
  base = k.base;
  ops = k.ops;
  embedding = k.embedding;
  channel = channel R k.extension k.base.size job.bits;
  layers = job.layers;
  inputs = job.inputs;
  outputs = job.outputs;
  history = h;
}

-- what the job's challenger answers
abbrev pub circuit_rules : CircuitJob → Rules
circuit_rules job = rules_by (fields_of job.field).base.size job.challenger

-- what it asks of its own challenger, over the fields that it names
abbrev pub own_case : CircuitJob → CircuitCase
own_case job = case_under (fields_of job.field) job (circuit_rules job) []

-- ---- the reply

-- the lines of a report that shows these layers, up to the verdict
unfoldable pub circuit_lines : CircuitFigures → List GivenLayer → List ℕ
circuit_lines f layers = claim_line f.claim ++ layers_lines 0 layers f.challenges f.merges ++ input_line f.last

-- the lines of a report with what the layers say of the outputs
abbrev pub circuit_finding_reply : CircuitFinding → List ℕ → Reply
circuit_finding_reply holds lines = record { outcome = Holds; text = lines ++ holds_line }
circuit_finding_reply (refuted layer) lines = record { outcome = Refuted; text = lines ++ refuted_layer_line layer }
circuit_finding_reply (lucky l) lines = record { outcome = Lucky; text = lines ++ lucky_layer_line l.stage l.luck }

-- what is replied to the figures of a report that shows these layers
abbrev pub shown_reply : CircuitFigures → List GivenLayer → Reply
shown_reply f layers = circuit_finding_reply f.finding (circuit_lines f layers)

-- what is replied to the figures of a report at a difficulty
abbrev pub figures_reply : ℕ → CircuitFigures → Reply
figures_reply bits f = shown_reply f (map (wired bits) f.came)

-- Why rounds at a difficulty are refused. No layer is refused for another cause.
abbrev pub rounds_refusal_text : ℕ → GenericDegreeError → List ℕ
rounds_refusal_text bits (rounds.RoundCountMismatch expected actual) = rounds_text expected actual
rounds_refusal_text bits (rounds.PowWitnessCountMismatch expected actual) = witnesses_text expected actual
rounds_refusal_text bits (rounds.PolyEvalCountMismatch round expected actual) = width_text round expected actual
rounds_refusal_text bits (rounds.InvalidPowWitness round) = witness_text round bits
rounds_refusal_text bits e = []

-- the refusal of the rounds of a layer
abbrev pub layer_refusal : ℕ → ℕ → GenericDegreeError → Reply
layer_refusal bits layer e = proof_refused (layer_name layer ++ rounds_refusal_text bits e)

-- To a refusal of what is asked at a difficulty. Want of memory is a status of its own, and has no text.
abbrev pub circuit_refusal : ℕ → CircuitError → Reply
circuit_refusal bits (Depth layers) = refused (depth_text layers)
circuit_refusal bits (Width layer len) = refused (layer_width_text layer len)
circuit_refusal bits (Wire layer gate) = refused (wire_text layer gate)
circuit_refusal bits (OutputCount expected actual) = refused (outputs_text expected actual)
circuit_refusal bits (Difficulty b bound) = refused (difficulty_text b bound)
circuit_refusal bits (FalseOutput gate claimed actual) = refused (false_output_text gate claimed actual)
circuit_refusal bits (LayerCount expected actual) = proof_refused (layers_text expected actual)
circuit_refusal bits (Layer layer e) = layer_refusal bits layer e
circuit_refusal bits (NoWitness layer round) = no_witness_at (layer_round_text layer round)
circuit_refusal bits NoMemory = refused []

-- to an answer
abbrev pub circuit_result_reply : ℕ → Result CircuitFigures CircuitError → Reply
circuit_result_reply bits (Ok f) = figures_reply bits f
circuit_result_reply bits (Err e) = circuit_refusal bits e

-- what layers are answered that may be no circuit
abbrev pub layers_result : CircuitCase → Option (List GivenLayer) → Option CircuitError → Result CircuitFigures CircuitError
layers_result q came None = circuit_result q came
layers_result q came (Some e) = Err e

-- what a job is answered over these fields by a challenger that answers by these rules and has this history
unfoldable pub circuit_judged : Fields → CircuitJob → Rules → List Event → Reply
circuit_judged k job R h =
    circuit_result_reply job.bits (layers_result (case_under k job R h) (came_given job.mode) (circuit_fault job.layers (length job.inputs)))

-- what jobs ask that name their field and their challenger
abbrev pub circuit_asks : Asks CircuitJob
circuit_asks = record { field = λ job. job.field; challenger = λ job. job.challenger; fits = CircuitJobFits; replies = circuit_judged }

-- what a job is answered, over the fields that it names and under its own challenger
abbrev pub circuit_answer : CircuitJob → Reply
circuit_answer job = circuit_judged (fields_of job.field) job (circuit_rules job) []
