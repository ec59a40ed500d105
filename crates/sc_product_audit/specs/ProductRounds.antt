-- The rounds that are asked for, or why they cannot be played.
use Rattle.std.specs.Prelude.{ℕ, suc, ◌==◌, List, [], ◌∷◌, ◌++◌, length, if◌then◌else◌, Option, Some, None, Result, Ok, Err}
use Rattle.sc_definitions.specs.declared.events.Event.{Event}
use Rattle.sc_definitions.specs.Transcript.{Round, round_events}
use Rattle.sc_definitions.specs.Replays.{given_rounds, round_passes}
use Rattle.sc_definitions.specs.Channels.{Channel}
use Rattle.sc_definitions.specs.Products.{honest_values}
use Rattle.sc_definitions.specs.Witnesses.{honest_rounds}
use Rattle.sc_transcript.specs.Data.{witness_count}
use Rattle.sc_product_audit.specs.declared.error.ProductError.{ProductError}
use Rattle.sc_product_audit.specs.declared.error.ProductError.TheVariants.{RoundCountMismatch, PowWitnessCountMismatch, PolyEvalCountMismatch, InvalidPowWitness}
use Rattle.sc_product_audit.specs.ProductCases.{ProductGiven, ProductCase, true_sum, product_start}

-- those that an honest prover builds, or the number of the first one for which no witness is found
abbrev pub product_built : ProductCase → Result (List Round) ℕ
product_built k =
    honest_rounds (honest_values k.ops k.tables) k.channel (product_start k (true_sum k)) [] k.variables

-- The first of rounds, numbered from i and played from h on, that sends another number of values than the degree, or else whose witness fails.
abbrev pub first_refused : Channel → ℕ → ℕ → List Event → List Round → Option ProductError
first_refused c degree i h [] = None
first_refused c degree i h (r ∷ rounds) =
    if length r.values == degree
    then (if round_passes c.rules c.extension c.bits h r then first_refused c degree (suc i) (h ++ round_events c.extension c.bits r) rounds else Some (InvalidPowWitness i c.bits))
    else Some (PolyEvalCountMismatch i degree (length r.values))

-- the rounds, unless one is refused
abbrev pub unless_refused : Option ProductError → List Round → Result (List Round) ProductError
unless_refused None rounds = Ok rounds
unless_refused (Some e) rounds = Err e

-- those that are handed in with a claimed sum, if none is refused
abbrev pub product_played : ProductCase → ℕ → List Round → Result (List Round) ProductError
product_played k claimed rounds = unless_refused (first_refused k.channel (length k.tables) 0 (product_start k claimed) rounds) rounds

-- the rounds that a proof hands in
abbrev pub rounds_given : ProductGiven → List Round
rounds_given g = given_rounds g.came.messages g.came.witnesses

-- those of a proof: as many as there are variables, and as many witnesses as they have
abbrev pub product_given : ProductCase → ProductGiven → Result (List Round) ProductError
product_given k g =
    if length g.came.messages == k.variables
    then (if length g.came.witnesses == witness_count k.channel.bits k.variables
    then product_played k g.claimed (rounds_given g)
    else Err (PowWitnessCountMismatch (witness_count k.channel.bits k.variables) (length g.came.witnesses)))
    else Err (RoundCountMismatch k.variables (length g.came.messages))
