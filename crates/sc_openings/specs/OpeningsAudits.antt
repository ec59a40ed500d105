-- What an answer leaves of the challenger's history, and what is promised of a build.
use Rattle.std.specs.Prelude.{◌≡◌, ◌⊎◌, ◌<◌, ℕ, List, ◌++◌, take, Option, Some, None, Result, Ok, Err}
use Rattle.std.specs.List.{slice_get}
use Rattle.sc_definitions.specs.declared.events.Event.{Event}
use Rattle.sc_definitions.specs.Transcript.{Round, before_draw}
use Rattle.sc_definitions.specs.Replays.{given_rounds}
use Rattle.sc_audit_errors.specs.Findings.{holds}
use Rattle.sc_merge_definitions.specs.Openings.{OpeningsCase, first_false_table_claim, SentOpenings, OpeningsFigures, after_merging, after_openings}
use Rattle.sc_openings.specs.declared.error.MergeError.{MergeError}
use Rattle.sc_openings.specs.declared.error.MergeError.TheVariants.{InvalidPowWitness, NoWitness, NoMemory}
use Rattle.sc_openings.specs.OpeningsJobs.{OpeningsJob, CameOpenings}
use Rattle.sc_openings.specs.Shapes.{early_fault}
use Rattle.sc_openings.specs.OpeningsRounds.{after_rounds, openings_built, with_openings, sent_given}
use Rattle.sc_openings.specs.OpeningsReports.{task_result, GivesResult}

-- ---- what is left of the history

-- these rounds and openings are those of what came, or those that are built, where nothing did
abbrev pub AreAsked : OpeningsCase → Option CameOpenings → SentOpenings → Type 0
AreAsked q None sent = (openings_built q ≡ Ok sent.rounds) × (with_openings q sent.rounds ≡ sent)
AreAsked q (Some came) sent = sent_given came ≡ sent

-- The claimed values, the draw that merges them, the seed and so many of the rounds that are asked for, from the first on, or all of them, stand in the history.
pub record EndsAfter (q : OpeningsCase) (came : Option CameOpenings) (count : ℕ) (h' : List Event) : Type 0 where
  pub sent : SentOpenings
  pub are : AreAsked q came sent
  pub history : h' ≡ after_rounds q (take count sent.rounds)

-- All rounds that are asked for and the openings after them do.
pub record EndsWhole (q : OpeningsCase) (came : Option CameOpenings) (h' : List Event) : Type 0 where
  pub sent : SentOpenings
  pub are : AreAsked q came sent
  pub history : h' ≡ after_openings q sent

-- The rounds before round i do, and then the history ends with the test of that round's witness.
pub record EndsInTest (q : OpeningsCase) (came : Option CameOpenings) (i : ℕ) (h' : List Event) : Type 0 where
  pub sent : SentOpenings
  pub are : AreAsked q came sent
  pub round : Round
  pub is : slice_get sent.rounds i ≡ Some round
  pub history : h' ≡ after_rounds q (take i sent.rounds) ++ before_draw q.channel.extension q.channel.bits round

-- after want of memory it is as it was, or it ends with the draw that merges the claims, or after some of the rounds, or after the openings
abbrev pub IsBrokenOff : OpeningsCase → Option CameOpenings → List Event → Type 0
IsBrokenOff q came h' = (h' ≡ q.history) ⊎ (h' ≡ after_merging q) ⊎ ((count : ℕ) × EndsAfter q came count h') ⊎ EndsWhole q came h'

-- What an answer leaves of the history: the transcript with the rounds and openings that a report shows; that up to the test that failed; and else, but for want
-- of memory, as it was.
abbrev pub LeavesHistory : OpeningsCase → Option CameOpenings → Result OpeningsFigures MergeError → List Event → Type 0
LeavesHistory q came (Ok f) h' = h' ≡ after_openings q (record { rounds = given_rounds f.messages f.witnesses; openings = f.openings })
LeavesHistory q came (Err (InvalidPowWitness i bits)) h' = EndsInTest q came i h'
LeavesHistory q came (Err NoMemory) h' = IsBrokenOff q came h'
LeavesHistory q came (Err e) h' = h' ≡ q.history

-- what comes of claims that fit: the answer that is due to what came, or to a build, and what it leaves of the history
pub record IsAnswered (q : OpeningsCase) (came : Option CameOpenings) (answer : Result OpeningsFigures MergeError) (h' : List Event) : Type 0 where
  pub result : GivesResult (task_result q came) answer
  pub history : LeavesHistory q came answer h'

-- ---- what is promised

-- it holds, or a round at a difficulty has no witness, or there is no memory
abbrev pub HoldsOrLacks : ℕ → Result OpeningsFigures MergeError → Type 0
HoldsOrLacks bits (Ok f) = f.finding ≡ holds
HoldsOrLacks bits (Err (NoWitness i)) = 0 < bits
HoldsOrLacks bits (Err NoMemory) = Unit {0}
HoldsOrLacks bits (Err e) = ⊥

-- so does a build of claims that fit and are true
abbrev pub HoldsWhereBuilt : OpeningsJob → Option CameOpenings → Result OpeningsFigures MergeError → Type 0
HoldsWhereBuilt job came answer =
    early_fault job ≡ None → came ≡ None → first_false_table_claim job.case 0 job.case.claims ≡ None → HoldsOrLacks job.case.channel.bits answer
