-- What stands before the rounds of a degree.
use Rattle.std.specs.Prelude.{ℕ, List, [], ◌∷◌, ◌++◌}
use Rattle.sc_definitions.specs.declared.events.Event.{Event}
use Rattle.sc_definitions.specs.Events.{Extension, words}
use Rattle.sc_definitions.specs.Transcript.{sent}
use Rattle.sc_definitions.specs.Seeds.{degree_seed}
use Rattle.sc_transcript.specs.declared.rounds.BatchShape.{BatchShape}
use Rattle.sc_degree.specs.declared.transcript.GenericDegreeShape.{GenericDegreeShape}

-- the words that a batch begins with, over an extension whose elements have so many parts
abbrev pub generic_seed : ℕ → GenericDegreeShape → List ℕ
generic_seed parts shape = degree_seed parts shape.degree shape.pow_bits shape.num_rounds

-- what stands before the first round: the seed's words, and the parts of the claimed sum
abbrev pub prelude_of : Extension → GenericDegreeShape → ℕ → List Event
prelude_of E shape claimed = words (generic_seed E.degree shape) ++ sent E (claimed ∷ [])

-- the shape of so many rounds of a degree, at a difficulty
abbrev pub generic_shape : ℕ → ℕ → ℕ → GenericDegreeShape
generic_shape num_rounds degree pow_bits = record { num_rounds = num_rounds; degree = degree; pow_bits = pow_bits }

-- the numbers of its batch, whose rounds send as many values as the degree
abbrev pub generic_batch : GenericDegreeShape → BatchShape
generic_batch shape = record { num_rounds = shape.num_rounds; width = shape.degree; pow_bits = shape.pow_bits }
