-- The round that turned a false claim into the true one, of any prover's rounds.
use Rattle.sc_definitions.specs.Ring.{Ops}
use Rattle.sc_definitions.specs.Polynomials.{poly_minus}
use Rattle.sc_definitions.specs.Interpolation.{sent_through, next_through}
use Rattle.sc_definitions.specs.Lucky.{Course}
use Rattle.sc_degree.specs.Provers.{Prover}

-- its rounds as a course
abbrev pub course_by : Ops → Prover → Course
course_by o p = record {
  next = next_through o;
  true_after = λ rs m. p.claim rs;
  excess = λ claim values rs m. poly_minus o (sent_through o claim values) (p.polynomial rs);
}
