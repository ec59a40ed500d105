-- Worked readings of texts, by computation.
use Rattle.std.proofs.Common.{refl}
use Rattle.std.specs.Str.{is_utf8, chars}
use Rattle.serde_json.proofs.OnLiterals.{serde_json_on_literals}
use Rattle.sc_forms.specs.Values.{value_of}
use Rattle.sc_forms.specs.Readings.{WorkedReadings}

pub worked : WorkedReadings
unfolding value_of is_utf8 chars serde_json_on_literals
worked = record {
  point = refl;
  exponent = refl;
  minus_zero = refl;
  greatest = refl;
  past_it = refl;
  infinite = refl;
  twice = refl;
  deepest = refl;
  too_deep = refl;
}
