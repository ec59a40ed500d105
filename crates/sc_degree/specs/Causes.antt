-- What the errors of rounds are among those of rounds of any degree.
use Rattle.std.specs.Prelude.{ℕ, Option, Some, None}
use Rattle.sc_transcript.specs.declared.error.RoundError.{RoundError}
use Rattle.sc_transcript.specs.declared.error.RoundError.TheVariants as rounds
use Rattle.sc_degree.specs.declared.error.GenericDegreeError.{GenericDegreeError}
use Rattle.sc_degree.specs.declared.error.GenericDegreeError.TheVariants as errors

-- the error that one of rounds is told as
abbrev pub generic_told : RoundError → GenericDegreeError
generic_told (rounds.RoundCount expected actual) = errors.RoundCountMismatch expected actual
generic_told (rounds.WitnessCount expected actual) = errors.PowWitnessCountMismatch expected actual
generic_told (rounds.WrongWidth i expected actual) = errors.PolyEvalCountMismatch i expected actual
generic_told (rounds.NoWitness i) = errors.NoWitness i
generic_told (rounds.MissingWitness i bits) = errors.MissingPowWitness i
generic_told (rounds.InvalidWitness i bits) = errors.InvalidPowWitness i
generic_told rounds.NoMemory = errors.NoMemory

-- the error of rounds at a difficulty that is told as this one, if one is
abbrev pub generic_cause : ℕ → GenericDegreeError → Option RoundError
generic_cause bits (errors.RoundCountMismatch expected actual) = Some (rounds.RoundCount expected actual)
generic_cause bits (errors.PowWitnessCountMismatch expected actual) = Some (rounds.WitnessCount expected actual)
generic_cause bits (errors.PolyEvalCountMismatch i expected actual) = Some (rounds.WrongWidth i expected actual)
generic_cause bits (errors.NoWitness i) = Some (rounds.NoWitness i)
generic_cause bits (errors.MissingPowWitness i) = Some (rounds.MissingWitness i bits)
generic_cause bits (errors.InvalidPowWitness i) = Some (rounds.InvalidWitness i bits)
generic_cause bits errors.NoMemory = Some rounds.NoMemory
generic_cause bits e = None
