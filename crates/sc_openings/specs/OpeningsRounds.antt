-- The rounds and openings that are asked for, or why they cannot be played.
use Rattle.std.specs.Prelude.{ℕ, ◌==◌, List, [], ◌++◌, length, if◌then◌else◌, Option, Some, None, Result, Ok, Err}
use Rattle.sc_definitions.specs.declared.events.Event.{Event}
use Rattle.sc_definitions.specs.Transcript.{Round, rounds_events}
use Rattle.sc_definitions.specs.Replays.{given_rounds}
use Rattle.sc_definitions.specs.Channels.{Wire}
use Rattle.sc_definitions.specs.Witnesses.{honest_rounds, first_failing}
use Rattle.sc_transcript.specs.Data.{witness_count}
use Rattle.sc_soundness.specs.Merged.{honest_merged}
use Rattle.sc_merge_definitions.specs.QuadraticPlays.{seeded_history}
use Rattle.sc_merge_definitions.specs.Openings.{OpeningsCase, after_merging, weighted_tables, SentOpenings, openings_challenges, values_at}
use Rattle.sc_openings.specs.declared.error.MergeError.{MergeError}
use Rattle.sc_openings.specs.declared.error.MergeError.TheVariants.{OpeningCount, RoundCountMismatch, PowWitnessCountMismatch, InvalidPowWitness}
use Rattle.sc_openings.specs.OpeningsJobs.{CameOpenings}
use Rattle.sc_openings.specs.Shapes.{or_later}

-- where the first round stands
abbrev pub rounds_start : OpeningsCase → List Event
rounds_start q = seeded_history q.channel (after_merging q) q.variables

-- the history after rounds
abbrev pub after_rounds : OpeningsCase → List Round → List Event
after_rounds q rounds = rounds_start q ++ rounds_events q.channel.extension q.channel.bits rounds

-- ---- what is built

-- the rounds that an honest prover builds, or the number of the first one for which no witness is found
abbrev pub openings_built : OpeningsCase → Result (List Round) ℕ
openings_built q = honest_rounds (honest_merged q.ops (weighted_tables q)) q.channel (rounds_start q) [] q.variables

-- rounds, with the tables' values at their challenges
abbrev pub with_openings : OpeningsCase → List Round → SentOpenings
with_openings q rounds = record { rounds = rounds; openings = values_at q.ops (weighted_tables q) (openings_challenges q rounds) }

-- ---- what comes

-- what comes after tests that found this, or nothing
abbrev pub unless_fault : {X : Type 0} → Option MergeError → Result X MergeError → Result X MergeError
unless_fault None result = result
unless_fault (Some e) result = Err e

-- there is not one opening for each of so many tables
abbrev pub openings_fault : ℕ → List ℕ → Option MergeError
openings_fault tables openings = if length openings == tables then None else Some (OpeningCount tables (length openings))

-- there are not as many rounds as these, or not as many witnesses as such rounds have at a difficulty
abbrev pub counts_fault : ℕ → ℕ → Wire → Option MergeError
counts_fault n bits w =
    if length w.messages == n
    then (if length w.witnesses == witness_count bits n then None else Some (PowWitnessCountMismatch (witness_count bits n) (length w.witnesses)))
    else Some (RoundCountMismatch n (length w.messages))

-- the first of these, of a proof for so many tables of so many variables, at a difficulty
abbrev pub proof_fault : ℕ → ℕ → ℕ → CameOpenings → Option MergeError
proof_fault tables n bits came = or_later (openings_fault tables came.openings) (counts_fault n bits came.wire)

-- the rounds that a proof hands in
abbrev pub rounds_given : Wire → List Round
rounds_given w = given_rounds w.messages w.witnesses

-- these and its openings
abbrev pub sent_given : CameOpenings → SentOpenings
sent_given came = record { rounds = rounds_given came.wire; openings = came.openings }

-- the witness of a round fails at a difficulty
abbrev pub failing_fault : ℕ → Option ℕ → Option MergeError
failing_fault bits None = None
failing_fault bits (Some i) = Some (InvalidPowWitness i bits)

-- so does that of the first such one of rounds that are played, if one is
abbrev pub witness_fault : OpeningsCase → List Round → Option MergeError
witness_fault q rounds = failing_fault q.channel.bits (first_failing q.channel.rules q.channel.extension q.channel.bits (rounds_start q) rounds)

-- those of a proof: one opening for each table, one round for each variable, as many witnesses as these have, and each passes
abbrev pub openings_given : OpeningsCase → CameOpenings → Result SentOpenings MergeError
openings_given q came =
    unless_fault (proof_fault (length q.tables) q.variables q.channel.bits came)
    (unless_fault (witness_fault q (rounds_given came.wire)) (Ok (sent_given came)))
