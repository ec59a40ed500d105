-- What an answer leaves of the challenger's history, and what is promised of a build.
use Rattle.std.specs.Prelude.{◌≡◌, ◌⊎◌, ◌<◌, ℕ, List, ◌++◌, take, Option, Some, None, Result, Ok, Err}
use Rattle.std.specs.List.{slice_get}
use Rattle.sc_definitions.specs.declared.events.Event.{Event}
use Rattle.sc_definitions.specs.Transcript.{Round, before_draw}
use Rattle.sc_definitions.specs.Replays.{given_rounds}
use Rattle.sc_definitions.specs.Channels.{Wire}
use Rattle.sc_audit_errors.specs.Findings.{holds}
use Rattle.sc_merge_definitions.specs.Matrices.{MatmulCase, MatmulFigures, after_point, after_rounds, false_entry}
use Rattle.sc_matmul.specs.declared.error.MatmulError.{MatmulError}
use Rattle.sc_matmul.specs.declared.error.MatmulError.TheVariants.{InvalidPowWitness, NoWitness, NoMemory}
use Rattle.sc_matmul.specs.Shapes.{early_fault}
use Rattle.sc_matmul.specs.MatmulRounds.{matmul_built, rounds_given}
use Rattle.sc_matmul.specs.MatmulReports.{task_result, GivesResult}

-- ---- what is left of the history

-- these rounds are those of what came, or those that are built, where nothing did
abbrev pub AreAsked : MatmulCase → Option Wire → List Round → Type 0
AreAsked q None rounds = matmul_built q ≡ Ok rounds
AreAsked q (Some w) rounds = rounds_given w ≡ rounds

-- The entries, the point's draw, the seed and so many of the rounds that are asked for, from the first on, or all of them, stand in the history.
pub record EndsAfter (q : MatmulCase) (came : Option Wire) (count : ℕ) (h' : List Event) : Type 0 where
  pub rounds : List Round
  pub are : AreAsked q came rounds
  pub history : h' ≡ after_rounds q (take count rounds)

-- The rounds before round i do, and then the history ends with the test of that round's witness.
pub record EndsInTest (q : MatmulCase) (came : Option Wire) (i : ℕ) (h' : List Event) : Type 0 where
  pub rounds : List Round
  pub are : AreAsked q came rounds
  pub round : Round
  pub is : slice_get rounds i ≡ Some round
  pub history : h' ≡ after_rounds q (take i rounds) ++ before_draw q.channel.extension q.channel.bits round

-- What an answer leaves of the history: the transcript with the rounds that a report shows; that up to the test that failed; and else as it was. After want of
-- memory it is as it was, or it ends with the point's draw, or after some of the rounds.
abbrev pub LeavesHistory : MatmulCase → Option Wire → Result MatmulFigures MatmulError → List Event → Type 0
LeavesHistory q came (Ok f) h' = h' ≡ after_rounds q (given_rounds f.messages f.witnesses)
LeavesHistory q came (Err (InvalidPowWitness i bits)) h' = EndsInTest q came i h'
LeavesHistory q came (Err NoMemory) h' = (h' ≡ q.history) ⊎ (h' ≡ after_point q) ⊎ ((count : ℕ) × EndsAfter q came count h')
LeavesHistory q came (Err e) h' = h' ≡ q.history

-- what comes of a claim whose sides and difficulty fit: the answer that is due to what came, or to a build, and what it leaves of the history
pub record IsAnswered (q : MatmulCase) (came : Option Wire) (answer : Result MatmulFigures MatmulError) (h' : List Event) : Type 0 where
  pub result : GivesResult (task_result q came) answer
  pub history : LeavesHistory q came answer h'

-- ---- what is promised

-- it holds, or a round at a difficulty has no witness, or there is no memory
abbrev pub HoldsOrLacks : ℕ → Result MatmulFigures MatmulError → Type 0
HoldsOrLacks bits (Ok f) = f.finding ≡ holds
HoldsOrLacks bits (Err (NoWitness i)) = 0 < bits
HoldsOrLacks bits (Err NoMemory) = Unit {0}
HoldsOrLacks bits (Err e) = ⊥

-- so does a build whose sides and difficulty fit, and of which no entry is false
abbrev pub HoldsWhereBuilt : MatmulCase → Option Wire → Result MatmulFigures MatmulError → Type 0
HoldsWhereBuilt q came answer = early_fault q ≡ None → came ≡ None → false_entry q ≡ None → HoldsOrLacks q.channel.bits answer
