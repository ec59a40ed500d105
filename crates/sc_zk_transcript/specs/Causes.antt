-- What the errors of rounds are among those of a masked sumcheck.
use Rattle.std.specs.Prelude.{Option, Some}
use Rattle.sc_transcript.specs.declared.error.RoundError.{RoundError}
use Rattle.sc_transcript.specs.declared.error.RoundError.TheVariants as rounds
use Rattle.sc_transcript.specs.declared.error.SumcheckError.{SumcheckError}
use Rattle.sc_transcript.specs.declared.error.SumcheckError.TheVariants as errors
use Rattle.sc_transcript.specs.Causes.{cause_of}

-- The error of masked rounds that is told as this one, if one is: those of quadratic rounds, and a wire that is too long or too short.
abbrev pub masked_cause : SumcheckError → Option RoundError
masked_cause (errors.WireSizeMismatch i expected actual) = Some (rounds.WrongWidth i expected actual)
masked_cause e = cause_of e
