-- The members of a job, and what is said of one that is missing or not of its form.
use Rattle.std.specs.Prelude.{ℕ, List, ◌++◌, codes, if◌then◌else◌, Option, is_some, Result, Ok, Err}
use Rattle.std.specs.Option.{ok_or}
use Rattle.serde_json.specs.Data.{Data}
use Rattle.serde_json.specs.Find.{get}
use Rattle.sc_forms.specs.Forms.{member_form}
use Rattle.sumcheck_members.specs.declared.member.Member.{Member}

-- the name of a member of a job, or of the job as a whole
abbrev pub Name : Type 0
Name = List ℕ

-- the job as a whole
abbrev pub whole_job : Name
whole_job = codes "job"

-- the name that a refusal tells
abbrev pub member_name : Member → Name
member_name member = member.word.now

-- what a job is refused with for the member of this name
unfoldable pub misfit_text : Name → List ℕ
misfit_text m = codes "bad-job " ++ m

-- what a member is read as in its form, or else the member
abbrev pub needed : {A : Type 0} → (Data → Option A) → Name → Data → Result A Name
needed form m d = ok_or (member_form form m d) m

-- the same of a member that may be missing, and means this then
abbrev pub needed_or : {A : Type 0} → A → (Data → Option A) → Name → Data → Result A Name
needed_or missing form m d = if is_some (get m d) then needed form m d else Ok missing

-- what goes on where there was no misfit
abbrev pub unless_misfit : {A B : Type 0} → Result A Name → (A → Result B Name) → Result B Name
unless_misfit (Ok x) rest = rest x
unless_misfit (Err m) rest = Err m
