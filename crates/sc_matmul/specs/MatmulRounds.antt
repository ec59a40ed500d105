-- The rounds that are asked for, or why they cannot be played.
use Rattle.std.specs.Prelude.{ℕ, ◌==◌, List, [], length, if◌then◌else◌, Option, Some, None, Result, Ok, Err}
use Rattle.sc_definitions.specs.declared.events.Event.{Event}
use Rattle.sc_definitions.specs.Tables.{evaluation, prefix}
use Rattle.sc_definitions.specs.Rounds.{honest_message}
use Rattle.sc_definitions.specs.Transcript.{Round}
use Rattle.sc_definitions.specs.Replays.{given_rounds}
use Rattle.sc_definitions.specs.Channels.{Wire}
use Rattle.sc_definitions.specs.Witnesses.{honest_rounds, first_failing}
use Rattle.sc_transcript.specs.Data.{witness_count}
use Rattle.sc_merge_definitions.specs.QuadraticPlays.{seeded_history}
use Rattle.sc_merge_definitions.specs.Matrices.{MatmulCase, left_table, right_table, inner_variables, after_point}
use Rattle.sc_matmul.specs.declared.error.MatmulError.{MatmulError}
use Rattle.sc_matmul.specs.declared.error.MatmulError.TheVariants.{RoundCountMismatch, PowWitnessCountMismatch, InvalidPowWitness}

-- where the first round stands
abbrev pub rounds_start : MatmulCase → List Event
rounds_start q = seeded_history q.channel (after_point q) (inner_variables q)

-- those that an honest prover builds, or the number of the first one for which no witness is found
abbrev pub matmul_built : MatmulCase → Result (List Round) ℕ
matmul_built q =
    honest_rounds (honest_message evaluation prefix q.ops (left_table q) (right_table q)) q.channel (rounds_start q) [] (inner_variables q)

-- what comes after tests that found this, or nothing
abbrev pub unless_fault : {X : Type 0} → Option MatmulError → Result X MatmulError → Result X MatmulError
unless_fault None result = result
unless_fault (Some e) result = Err e

-- there are not as many rounds as these, or not as many witnesses as such rounds have at a difficulty
abbrev pub counts_fault : ℕ → ℕ → Wire → Option MatmulError
counts_fault n bits w =
    if length w.messages == n
    then (if length w.witnesses == witness_count bits n then None else Some (PowWitnessCountMismatch (witness_count bits n) (length w.witnesses)))
    else Some (RoundCountMismatch n (length w.messages))

-- the rounds that a proof hands in
abbrev pub rounds_given : Wire → List Round
rounds_given w = given_rounds w.messages w.witnesses

-- the witness of a round fails at a difficulty
abbrev pub failing_fault : ℕ → Option ℕ → Option MatmulError
failing_fault bits None = None
failing_fault bits (Some i) = Some (InvalidPowWitness i bits)

-- so does that of the first such one of rounds that are played, if one is
abbrev pub witness_fault : MatmulCase → List Round → Option MatmulError
witness_fault q rounds = failing_fault q.channel.bits (first_failing q.channel.rules q.channel.extension q.channel.bits (rounds_start q) rounds)

-- those of a proof: as many as there are variables of the inner side, as many witnesses as they have, and each passes
abbrev pub matmul_given : MatmulCase → Wire → Result (List Round) MatmulError
matmul_given q w = unless_fault (counts_fault (inner_variables q) q.channel.bits w) (unless_fault (witness_fault q (rounds_given w)) (Ok (rounds_given w)))
