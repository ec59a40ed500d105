-- How a run ends.
use Rattle.std.specs.Prelude.{◌≡◌, ◌⊎◌, ℕ, ◌<◌, ◌≤◌, ◌+◌, List, [], length, take, Bool, true, false, Option, Some, None}
use Rattle.std.specs.Io.KnownBytes.{Consumes, Appends, IsAtEnd}
use Rattle.sc_streams.specs.Faults.{HasRisen}
use Rattle.sumcheck_run.specs.declared.command.Command.{Command}
use Rattle.sumcheck_replies.specs.Reply.{Reply, code_of}
use Rattle.sumcheck_replies.specs.Kinds.{max_input}
use Rattle.sumcheck_run.specs.Program.{reads_input, reply_of}

-- ---- the statuses of a run

-- a whole reply: one of an outcome
abbrev pub IsOfReply : ℕ → Type 0
IsOfReply code = code ≤ 5

-- the words are no command: that of the outcome `Usage`
abbrev pub told_usage : ℕ
told_usage = 2

abbrev pub reading_failed : ℕ
reading_failed = 6

abbrev pub writing_failed : ℕ
writing_failed = 7

abbrev pub want_of_memory : ℕ
want_of_memory = 8

-- ---- what a run leaves

-- The input was read, to its end or to one byte past the limit. A command that reads nothing has the empty input.
pub record IsRead (reads : Bool) (left left' : Option (List ℕ)) (input : List ℕ) : Type 0 where
  pub taken : Consumes left left' input
  pub size : length input ≤ max_input + 1
  pub whole : reads ≡ true → length input ≤ max_input → IsAtEnd left'
  pub none : reads ≡ false → input ≡ []

-- Some input was read, and this is the status of the reply to it, with its whole text.
pub record IsAnswered (command : Option Command) (left left' written written' : Option (List ℕ)) (code : ℕ) : Type 0 where
  pub input : List ℕ
  pub read : IsRead (reads_input command) left left' input
  pub status : code ≡ code_of (reply_of command input).outcome
  pub text : Appends written written' (reply_of command input).text

-- Some input was read, and a proper prefix of the reply's text is written.
pub record IsCutShort (command : Option Command) (left left' written written' : Option (List ℕ)) : Type 0 where
  pub input : List ℕ
  pub read : IsRead (reads_input command) left left' input
  pub count : ℕ
  pub proper : count < length (reply_of command input).text
  pub text : Appends written written' (take count (reply_of command input).text)

-- What a command replies to: all the bytes that the source tells, where it has no fault. A command that reads nothing has one reply, whatever they are.
abbrev pub IsInput : Bool → Option (List ℕ) → ℕ → ℕ → List ℕ → Type 0
IsInput true left faults faults' input = (left ≡ Some input) × ¬ HasRisen faults faults'
IsInput false left faults faults' input = Unit {0}

-- The same of a source, as it stood before and as it stands after.
abbrev pub TellsInput : {S : Type 0} → Option Command → (S → Option (List ℕ)) → (S → ℕ) → S → S → List ℕ → Type 0
TellsInput command left faults source source' input = IsInput (reads_input command) (left source) (faults source) (faults source') input

-- This reply's status and whole text, or want of memory.
abbrev pub WritesReply : Reply → Option (List ℕ) → Option (List ℕ) → ℕ → Type 0
WritesReply reply written written' code = (code ≡ want_of_memory) ⊎ ((code ≡ code_of reply.outcome) × Appends written written' reply.text)

-- The reply's status and whole text, without a fault; or a failed write, a proper prefix and a fault; or want of memory, and the sink as it was.
abbrev pub Responds : {K : Type 0} → (K → Option (List ℕ)) → (K → ℕ) → Reply → K → K → ℕ → Type 0
Responds taken faults reply sink sink' code =
    ((code ≡ code_of reply.outcome) × Appends (taken sink) (taken sink') reply.text × (faults sink' ≡ faults sink))
    ⊎ ((code ≡ writing_failed) × ((count : ℕ) × (count < length reply.text) × Appends (taken sink) (taken sink') (take count reply.text)) × HasRisen (faults sink) (faults sink'))
    ⊎ ((code ≡ want_of_memory) × (sink' ≡ sink))

-- The status of usage comes only where there is no command; and there comes nothing else, a failed write and want of memory aside.
pub record TellsUsage (command : Option Command) (code : ℕ) : Type 0 where
  pub only : code ≡ told_usage → command ≡ None
  pub told : command ≡ None → (code ≡ told_usage) ⊎ (code ≡ writing_failed) ⊎ (code ≡ want_of_memory)

-- At most one byte past the limit was given, and at most one read gave none.
pub record ReadsLittle {S : Type 0} (given dry : S → ℕ) (source source' : S) : Type 0 where
  pub given_few : given source' ≤ given source + (max_input + 1)
  pub dry_once : dry source' ≤ dry source + 1

-- This status tells a stream's faults: it comes only where their count rose, and where the count rose nothing else comes. The run stops at the first
-- fault: no call finds a count above the one that it began with.
pub record TellsFaults {X : Type 0} (faults : X → ℕ) (late : X → ℕ → ℕ) (stream stream' : X) (status code : ℕ) : Type 0 where
  pub only : code ≡ status → HasRisen (faults stream) (faults stream')
  pub told : faults stream < faults stream' → code ≡ status
  pub stops : late stream' (faults stream) ≤ late stream (faults stream)

-- Where this is told the count of faults rose, and where it is not the count is as it was.
abbrev pub IsTold : Type 0 → ℕ → ℕ → Type 0
IsTold told faults faults' = (told → HasRisen faults faults') × (¬ told → faults' ≡ faults)

-- No call found a count of faults above the one that the stream began with.
abbrev pub StopsAtFault : {X : Type 0} → (X → ℕ) → (X → ℕ → ℕ) → X → X → Type 0
StopsAtFault faults late stream stream' = late stream' (faults stream) ≤ late stream (faults stream)
