-- What is answered: the figures of layers and what they say of the outputs, or why there are none.
use Rattle.std.specs.Prelude.{◌≡◌, ◌⊎◌, ℕ, List, length, map, Option, Some, None, Result, Ok, Err}
use Rattle.sc_definitions.specs.Channels.{empty_wire, with_rounds}
use Rattle.sc_definitions.specs.Lucky.{in_batch, in_round}
use Rattle.sc_circuit_definitions.specs.Circuits.{top_width}
use Rattle.sc_circuit_definitions.specs.CircuitPlays.{CircuitCase, SentLayer}
use Rattle.sc_circuit_definitions.specs.CircuitFindings.{CircuitFinding, holds, refuted, lucky, CircuitFigures, circuit_figures, false_output}
use Rattle.sc_circuit.specs.declared.error.CircuitError.{CircuitError}
use Rattle.sc_circuit.specs.declared.error.CircuitError.TheVariants.{NoWitness, NoMemory}
use Rattle.sc_circuit.specs.declared.report.CircuitReport.{CircuitReport}
use Rattle.sc_circuit.specs.declared.report.CircuitVerdict.{CircuitVerdict}
use Rattle.sc_circuit.specs.declared.report.CircuitVerdict.TheVariants.{Holds, Refuted, LuckyMerge, LuckyRound}
use Rattle.sc_circuit.specs.Runs.{GivenLayer, sent_of}
use Rattle.sc_circuit.specs.Shapes.{or_later}
use Rattle.sc_circuit.specs.Refusals.{output_fault, difficulty_fault, told_output}
use Rattle.sc_circuit.specs.CircuitJobs.{proof_in}
use Rattle.sc_circuit.specs.CircuitRounds.{Unwitnessed, circuit_built, circuit_given, unless_fault}

-- ---- what is answered

-- to layers that are handed in
abbrev pub given_result : CircuitCase → Result (List SentLayer) CircuitError → Result CircuitFigures CircuitError
given_result q (Ok sent) = Ok (circuit_figures q sent)
given_result q (Err e) = Err e

-- to layers that are built, or the round for which no witness is found
abbrev pub built_result : CircuitCase → Result (List SentLayer) Unwitnessed → Result CircuitFigures CircuitError
built_result q (Ok sent) = Ok (circuit_figures q sent)
built_result q (Err u) = Err (NoWitness u.layer u.round)

-- to what came, or to a build, where nothing did
abbrev pub task_result : CircuitCase → Option (List GivenLayer) → Result CircuitFigures CircuitError
task_result q None = unless_fault (told_output (false_output q)) (built_result q (circuit_built q))
task_result q (Some came) = given_result q (circuit_given q came)

-- what is refused before that: another number of outputs, or too great a difficulty
abbrev pub early_fault : CircuitCase → Option CircuitError
early_fault q =
    or_later (output_fault (top_width q.layers (length q.inputs)) (length q.outputs)) (difficulty_fault q.channel.bits q.channel.rules.max_bits)

-- to what is asked: the report on the layers that are asked for, or the first refusal
abbrev pub circuit_result : CircuitCase → Option (List GivenLayer) → Result CircuitFigures CircuitError
circuit_result q came = unless_fault (early_fault q) (task_result q came)

-- An answer is exactly this result, or want of memory.
abbrev pub GivesResult : Result CircuitFigures CircuitError → Result CircuitFigures CircuitError → Type 0
GivesResult due (Ok f) = due ≡ Ok f
GivesResult due (Err e) = (e ≡ NoMemory) ⊎ (due ≡ Err e)

-- ---- views

-- what is sent for a layer at a difficulty, on the wire
abbrev pub wired : ℕ → SentLayer → GivenLayer
wired bits c = record { wire = with_rounds bits empty_wire c.rounds; left = c.left; right = c.right }

-- what a verdict says
abbrev pub finding_in : {EF : Type 0} → (EF → ℕ) → CircuitVerdict EF → CircuitFinding
finding_in number Holds = holds
finding_in number (Refuted layer) = refuted layer
finding_in number (LuckyMerge layer poly vanishing) = lucky (record { stage = layer; luck = in_batch (map number poly) vanishing })
finding_in number (LuckyRound layer round poly vanishing) = lucky (record { stage = layer; luck = in_round round (map number poly) vanishing })

-- what a report shows
abbrev pub figures_in : {F EF : Type 0} → (F → ℕ) → (EF → ℕ) → CircuitReport F EF → CircuitFigures
figures_in base number r = record {
  claim = number r.claim;
  came = map sent_of (proof_in base number r.proof);
  challenges = map (λ rs. map number rs) r.challenges;
  merges = map number r.merges;
  last = number r.last;
  finding = finding_in number r.verdict;
}

-- what a call answers
abbrev pub result_in : {F EF : Type 0} → (F → ℕ) → (EF → ℕ) → Result (CircuitReport F EF) CircuitError → Result CircuitFigures CircuitError
result_in base number (Ok r) = Ok (figures_in base number r)
result_in base number (Err e) = Err e

-- The layers that a report shows are those of its figures on the wire: a proof that was handed in is shown as it came.
abbrev pub ShowsLayers : {F EF : Type 0} → (F → ℕ) → (EF → ℕ) → ℕ → CircuitReport F EF → Type 0
ShowsLayers base number bits r = proof_in base number r.proof ≡ map (wired bits) (figures_in base number r).came
