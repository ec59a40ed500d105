-- What is refused of outputs and of layers that came, before a layer is played.
use Rattle.std.specs.Prelude.{ℕ, ◌==◌, nat_lt, if◌then◌else◌, Option, Some, None}
use Rattle.sc_soundness.specs.Differences.{Difference}
use Rattle.sc_circuit.specs.declared.error.CircuitError.{CircuitError}
use Rattle.sc_circuit.specs.declared.error.CircuitError.TheVariants.{OutputCount, Difficulty, FalseOutput, LayerCount, NoWitness, NoMemory}
use Rattle.sc_degree.specs.declared.error.GenericDegreeError.{GenericDegreeError}
use Rattle.sc_degree.specs.declared.error.GenericDegreeError.TheVariants as rounds

-- there is one output for each gate of layer 0
abbrev pub output_fault : ℕ → ℕ → Option CircuitError
output_fault expected actual = if actual == expected then None else Some (OutputCount expected actual)

-- the difficulty is at most the bound
abbrev pub difficulty_fault : ℕ → ℕ → Option CircuitError
difficulty_fault bits bound = if nat_lt bound bits then Some (Difficulty bits bound) else None

-- where layers are built, no output is false
abbrev pub told_output : Option Difference → Option CircuitError
told_output None = None
told_output (Some d) = Some (FalseOutput d.place d.claimed d.actual)

-- where layers came, they are as many as those of the circuit
abbrev pub layers_fault : ℕ → ℕ → Option CircuitError
layers_fault expected actual = if actual == expected then None else Some (LayerCount expected actual)

-- what the refusal of a prover's rounds is for a build; an honest one is refused for no more than these
abbrev pub build_refusal : ℕ → GenericDegreeError → CircuitError
build_refusal layer (rounds.NoWitness j) = NoWitness layer j
build_refusal layer e = NoMemory
