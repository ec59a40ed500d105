-- What a batch of rounds appends to a history, by its shape.
use Rattle.std.specs.Prelude.{ℕ, List, [], ◌∷◌, ◌++◌}
use Rattle.sc_definitions.specs.declared.events.Event.{Event}
use Rattle.sc_definitions.specs.Events.{words}
use Rattle.sc_definitions.specs.Transcript.{Round, round_of}
use Rattle.sc_definitions.specs.Seeds.{quadratic_seed}
use Rattle.sc_definitions.specs.Channels.{VerifierState, verifier_state}
use Rattle.sc_table.specs.Strategy.{basis_of}
use Rattle.sc_table.specs.declared.strategy.Basis.{Basis}
use Rattle.sc_transcript.specs.declared.rounds.BatchShape.{BatchShape}
use Rattle.sc_transcript.specs.declared.transcript.SumcheckShape.{SumcheckShape}

-- the words that a batch begins with, over an extension of a degree; none for no rounds
abbrev pub seed_of : ℕ → SumcheckShape → List ℕ
seed_of degree shape = quadratic_seed degree (basis_of shape.basis) shape.pow_bits shape.num_rounds

-- the round of two values and a witness
abbrev pub pair_round : ℕ → ℕ → ℕ → Round
pair_round c_a c_inf witness = round_of (c_a ∷ c_inf ∷ []) witness

-- the shape of so many rounds, at a difficulty, in a basis
abbrev pub shape_of : ℕ → ℕ → Basis → SumcheckShape
shape_of num_rounds pow_bits basis = record { num_rounds = num_rounds; pow_bits = pow_bits; basis = basis }

-- the numbers of its batch, whose rounds send two values each
abbrev pub batch_of : SumcheckShape → BatchShape
batch_of shape = record { num_rounds = shape.num_rounds; width = 2; pow_bits = shape.pow_bits }

-- where a batch stands after its seed, from a history on and under a claim
abbrev pub seeded : ℕ → SumcheckShape → List Event → ℕ → VerifierState
seeded degree shape h claim = verifier_state (h ++ words (seed_of degree shape)) claim
