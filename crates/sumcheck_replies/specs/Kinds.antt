-- Kinds of jobs: which job a value describes, what it is replied, and what is promised of it.
use Rattle.std.specs.Prelude.{◌≡◌, ℕ, ◌≤◌, List, length, codes, Option, Some, None, Result, Ok, Err, nat_lt, if◌then◌else◌}
use Rattle.serde_json.specs.Data.{Data}
use Rattle.sc_forms.specs.Values.{value_of}
use Rattle.sumcheck_members.specs.Members.{Name, misfit_text}
use Rattle.sumcheck_replies.specs.Reply.{Reply, code_of, refused}

-- ---- an input

-- the greatest number of bytes of an input
abbrev pub max_input : ℕ
max_input = 67108864

unfoldable pub too_long : Reply
too_long = refused (codes "too-long")

unfoldable pub bad_json : Reply
bad_json = refused (codes "bad-json")

abbrev pub value_reply : (Data → Reply) → Option Data → Reply
value_reply reply None = bad_json
value_reply reply (Some d) = reply d

-- what a command that replies to a value replies to bytes
abbrev pub json_reply : (Data → Reply) → List ℕ → Reply
json_reply reply input = if nat_lt max_input (length input) then too_long else value_reply reply (value_of input)

-- ---- jobs of a kind

-- What jobs of a kind are.
pub record Jobs (J : Type 0) : Type 1 where
  -- the job that a value describes, or its first member that is missing or not of its form
  pub describes : Data → Result J Name
  -- what the numbers of a job have that a value describes
  pub fits : J → Type 0
  -- what a job is replied
  pub replies : J → Reply
  -- what is promised of a job and of this reply
  pub promises : J → Type 0

abbrev pub job_reply : {J : Type 0} → Jobs J → Result J Name → Reply
job_reply jobs (Ok job) = jobs.replies job
job_reply jobs (Err m) = refused (misfit_text m)

-- what is replied to a value
abbrev pub jobs_reply : {J : Type 0} → Jobs J → Data → Reply
jobs_reply jobs d = job_reply jobs (jobs.describes d)

-- Where an input is short enough and describes a job, it is replied what that job is, and the job has what is promised of it.
abbrev pub KeepsPromise : {J : Type 0} → Jobs J → List ℕ → Type 0
KeepsPromise {J} jobs input =
    (d : Data) (job : J) → length input ≤ max_input → value_of input ≡ Some d → jobs.describes d ≡ Ok job
    → (json_reply (jobs_reply jobs) input ≡ jobs.replies job) × jobs.promises job

-- it is not what words are told that are no command
abbrev pub IsAnswer : Reply → Type 0
IsAnswer reply = code_of reply.outcome ≡ 2 → ⊥

-- What holds of jobs of each kind.
pub record AreLawful {J : Type 0} (jobs : Jobs J) : Type 0 where
  pub answer : (job : J) → IsAnswer (jobs.replies job)
  pub fit : (d : Data) (job : J) → jobs.describes d ≡ Ok job → jobs.fits job
  pub kept : (job : J) → jobs.fits job → jobs.promises job

-- jobs of some kind
pub record AnyJobs : Type 1 where
  pub Job : Type 0
  pub jobs : Jobs Job
