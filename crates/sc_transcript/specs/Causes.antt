-- What the errors of rounds are among those of a quadratic sumcheck.
use Rattle.std.specs.Prelude.{Option, Some, None}
use Rattle.sc_transcript.specs.declared.error.RoundError.{RoundError}
use Rattle.sc_transcript.specs.declared.error.RoundError.TheVariants as rounds
use Rattle.sc_transcript.specs.declared.error.SumcheckError.{SumcheckError}
use Rattle.sc_transcript.specs.declared.error.SumcheckError.TheVariants as errors

-- the error that one of rounds is told as
abbrev pub told_as : RoundError → SumcheckError
told_as (rounds.RoundCount expected actual) = errors.RoundCountMismatch expected actual
told_as (rounds.WitnessCount expected actual) = errors.PowWitnessCountMismatch expected actual
told_as (rounds.WrongWidth i expected actual) = errors.WireSizeMismatch i expected actual
told_as (rounds.NoWitness i) = errors.NoWitness i
told_as (rounds.MissingWitness i bits) = errors.MissingPowWitness i bits
told_as (rounds.InvalidWitness i bits) = errors.InvalidPowWitness i bits
told_as rounds.NoMemory = errors.NoMemory

-- The error of quadratic rounds that is told as this one, if one is. None of these has another number of values than two.
abbrev pub cause_of : SumcheckError → Option RoundError
cause_of (errors.RoundCountMismatch expected actual) = Some (rounds.RoundCount expected actual)
cause_of (errors.PowWitnessCountMismatch expected actual) = Some (rounds.WitnessCount expected actual)
cause_of (errors.NoWitness i) = Some (rounds.NoWitness i)
cause_of (errors.MissingPowWitness i bits) = Some (rounds.MissingWitness i bits)
cause_of (errors.InvalidPowWitness i bits) = Some (rounds.InvalidWitness i bits)
cause_of errors.NoMemory = Some rounds.NoMemory
cause_of e = None
