-- How a run ends, by what was read and what was replied to it.
use Rattle.std.proofs.Common.{◌≡◌, ◌⊎◌, ◌<◌, ◌≤◌, ◌++◌, ℕ, List, [], Bool, true, false, leb, ltb, eqb, Option, Some, None, Result, Err, length, take, refl, sym, ap, ◌∙◌, inl, inr, arith, length-append}
use Rattle.std.proofs.lemmas.Bool.{cases_Bool, ltb-true, ltb-false, leb-false, eqb-false, false≢true}
use Rattle.std.proofs.lemmas.List.{append-nil}
use Rattle.std.specs.Io.KnownBytes.{Appends}
use Rattle.serde_json.specs.Data.{Data}
use Rattle.sc_streams.specs.Faults.{HasRisen}
use Rattle.sumcheck_run.specs.declared.command.Command.{Command}
use Rattle.sumcheck_run.specs.declared.command.Command.TheVariants.{Judge, Make}
use Rattle.sumcheck_replies.specs.declared.reply.Outcome.{Outcome}
use Rattle.sumcheck_replies.specs.declared.reply.Outcome.TheVariants.{Holds, Told, Refuted, Lucky, Usage, JobRefused, ProofRefused, NoWitness}
use Rattle.sumcheck_replies.specs.Reply.{Reply, code_of}
use Rattle.sumcheck_replies.specs.Kinds.{max_input, json_reply, jobs_reply}
use Rattle.sumcheck_replies.proofs.KindLaws.{long-reply}
use Rattle.sumcheck_run.specs.Program.{jobs_of, reads_input, reply_of}
use Rattle.sumcheck_run.specs.Run.{IsRead, IsAnswered, IsCutShort, IsInput, TellsUsage, WritesReply, Responds}
use Rattle.sumcheck_run.proofs.Outcomes.{usage-only, usage-code}

-- ---- what is replied to what was read

-- an input past the limit has one reply
past : (reply : Data → Reply) (xs ys input : List ℕ) → input ≡ xs ++ ys → max_input < length xs → json_reply reply xs ≡ json_reply reply input
past reply xs ys input is over =
    let longer : max_input < length input = rw is (omega (arith, length-append xs ys)) in long-reply reply xs over ∙ sym (long-reply reply input longer)

whole : (xs ys input : List ℕ) → input ≡ xs ++ ys → ys ≡ [] → xs ≡ input
whole xs ys input is end = rw (is, end, append-nil) refl

by_size : (a b : ℕ) → (a < b) ⊎ (b ≤ a)
by_size a b = elim (cases_Bool (ltb a b)) [
  | inl e ↦ inl (ltb-true a b e)
  | inr e ↦ inr (ltb-false a b e)
]

-- the same of a command that replies to a value, where it was read as one that reads
json_same : (reply : Data → Reply) (left left' : Option (List ℕ)) (old new : ℕ) (xs input : List ℕ) → IsRead true left left' xs → IsInput true left old new input →
    json_reply reply xs ≡ json_reply reply input
json_same reply left None old new xs input read is = let taken = rw is.0 at read.taken in absurd taken
json_same reply left (Some ys) old new xs input read is =
    let taken = rw is.0 at read.taken in
    elim (by_size max_input (length xs)) [
      | inl over ↦ past reply xs ys input taken over
      | inr fits ↦ ap (json_reply reply) (whole xs ys input taken (read.whole refl fits))
    ]

-- The reply to what was read is the reply to all that the source had.
same_reply : (command : Option Command) (left left' : Option (List ℕ)) (old new : ℕ) (xs input : List ℕ) → IsRead (reads_input command) left left' xs →
    IsInput (reads_input command) left old new input → reply_of command xs ≡ reply_of command input
same_reply None left left' old new xs input read is = refl
same_reply (Some (Make recipe)) left left' old new xs input read is = refl
same_reply (Some (Judge kind)) left left' old new xs input read is = json_same (jobs_reply (jobs_of kind).jobs) left left' old new xs input read is

-- ---- a reply that is written

pub responds_whole : {K : Type 0} (taken : K → Option (List ℕ)) (faults : K → ℕ) {reply answer : Reply} {sink sink' : K} {outcome : Outcome} {text : List ℕ} {code : ℕ} →
    answer ≡ reply → outcome ≡ answer.outcome → text ≡ answer.text → code ≡ code_of outcome → Appends (taken sink) (taken sink') text → faults sink' ≡ faults sink →
    Responds taken faults reply sink sink' code
responds_whole taken faults {outcome} {text} is ends says status appends quiet =
    inl (status ∙ ap code_of (ends ∙ ap (λ (a : Reply). a.outcome) is), rw (says ∙ ap (λ (a : Reply). a.text) is) at appends, quiet)

pub responds_part : {K : Type 0} (taken : K → Option (List ℕ)) (faults : K → ℕ) {reply answer : Reply} {sink sink' : K} {text : List ℕ} →
    answer ≡ reply → text ≡ answer.text → (count : ℕ) × (count < length text) × Appends (taken sink) (taken sink') (take count text) → HasRisen (faults sink) (faults sink') →
    Responds taken faults reply sink sink' 7
responds_part taken faults {text} is says part risen =
    inr (inl (refl, rw (says ∙ ap (λ (a : Reply). a.text) is) at part, risen))

pub responds_nothing : {K : Type 0} (taken : K → Option (List ℕ)) (faults : K → ℕ) (reply : Reply) (sink : K) → Responds taken faults reply sink sink 8
responds_nothing taken faults reply sink = inr (inr (refl, refl))

-- ---- a run that has read

-- Some input was read, and this is how it was replied to.
pub record Ran {K : Type 0} (taken : K → Option (List ℕ)) (faults : K → ℕ) (command : Option Command) (left left' : Option (List ℕ)) (sink sink' : K) (code : ℕ) : Type 0 where
  pub input : List ℕ
  pub read : IsRead (reads_input command) left left' input
  pub reply : Responds taken faults (reply_of command input) sink sink' code

pub ran : {K : Type 0} (taken : K → Option (List ℕ)) (faults : K → ℕ) {command command' : Option Command} {reads : Bool} {left left' : Option (List ℕ)} {sink sink' : K} {code : ℕ} {input : List ℕ} →
    command ≡ command' → reads ≡ reads_input command → IsRead reads left left' input → Responds taken faults (reply_of command input) sink sink' code →
    Ran taken faults command' left left' sink sink' code
ran taken faults {input} is needs read reply = record {
  input = input;
  read = rw (needs ∙ ap reads_input is) at read;
  reply = rw is at reply;
}

-- an outcome's status is at most 5
low : (o : Outcome) → code_of o ≤ 5
low Holds = omega arith
low Told = omega arith
low Refuted = omega arith
low Lucky = omega arith
low Usage = omega arith
low JobRefused = omega arith
low ProofRefused = omega arith
low NoWitness = omega arith

-- ---- two numbers that a test tells apart

pub differ : {Z : Type 0} (a b : ℕ) → eqb a b ≡ false → a ≡ b → Z
differ a b differs is = absurd (eqb-false a b differs is)

pub too_high : {Z : Type 0} (a b : ℕ) → leb a b ≡ false → a ≤ b → Z
too_high a b over small = let above : b < a = leb-false a b over in absurd (omega arith)

pub never_rises : {Z : Type 0} (a b : ℕ) → b ≡ a → a < b → Z
never_rises a b is risen = absurd (omega arith)

-- ---- the clauses of a run that has read

module _ {K : Type 0} {taken : K → Option (List ℕ)} {faults : K → ℕ} {command : Option Command} {left left' : Option (List ℕ)} {sink sink' : K} {code : ℕ} (r : Ran taken faults command left left' sink sink' code) where
  pub ran_answered : code ≤ 5 → IsAnswered command left left' (taken sink) (taken sink') code
  ran_answered small = elim r.reply [
    | inl whole ↦ record { input = r.input; read = r.read; status = whole.0; text = whole.1 }
    | inr rest ↦ elim rest [
      | inl part ↦ (let is : code ≡ 7 = part.0 in absurd (omega arith))
      | inr none ↦ (let is : code ≡ 8 = none.0 in absurd (omega arith))
    ]
  ]

  pub ran_cut_short : code ≡ 7 → IsCutShort command left left' (taken sink) (taken sink')
  ran_cut_short seven = elim r.reply [
    | inl whole ↦ absurd (omega (arith, whole.0, low (reply_of command r.input).outcome))
    | inr rest ↦ elim rest [
      | inl part ↦ record { input = r.input; read = r.read; count = part.1.0; proper = part.1.1; text = part.1.2 }
      | inr none ↦ (let is : code ≡ 8 = none.0 in absurd (omega arith))
    ]
  ]

  pub ran_silent : (code ≡ 6) ⊎ (code ≡ 8) → sink' ≡ sink
  ran_silent which = elim r.reply [
    | inl whole ↦ absurd (omega (arith, which, whole.0, low (reply_of command r.input).outcome))
    | inr rest ↦ elim rest [
      | inl part ↦ (let is : code ≡ 7 = part.0 in absurd (omega (arith, which)))
      | inr none ↦ none.1
    ]
  ]

  pub ran_code : (code ≤ 5) ⊎ ((code ≡ 7) ⊎ (code ≡ 8))
  ran_code = elim r.reply [
    | inl whole ↦ inl (rw whole.0 (low (reply_of command r.input).outcome))
    | inr rest ↦ elim rest [
      | inl part ↦ inr (inl part.0)
      | inr none ↦ inr (inr none.0)
    ]
  ]

  usage_only : code ≡ 2 → command ≡ None
  usage_only two = elim r.reply [
    | inl whole ↦ usage-only command r.input (sym whole.0 ∙ two)
    | inr rest ↦ elim rest [
      | inl part ↦ differ 2 7 refl (sym two ∙ part.0)
      | inr none ↦ differ 2 8 refl (sym two ∙ none.0)
    ]
  ]

  usage_told : command ≡ None → (code ≡ 2) ⊎ (code ≡ 7) ⊎ (code ≡ 8)
  usage_told is = elim r.reply [
    | inl whole ↦ inl (whole.0 ∙ ap (λ k. code_of (reply_of k r.input).outcome) is ∙ usage-code r.input)
    | inr rest ↦ elim rest [
      | inl part ↦ inr (inl part.0)
      | inr none ↦ inr (inr none.0)
    ]
  ]

  pub ran_usage : TellsUsage command code
  ran_usage = record { only = usage_only; told = usage_told }

  pub ran_headline : (old new : ℕ) (input : List ℕ) → IsInput (reads_input command) left old new input → (HasRisen (faults sink) (faults sink') → ⊥) →
      WritesReply (reply_of command input) (taken sink) (taken sink') code
  ran_headline old new input is calm = elim r.reply [
    | inl whole ↦
        let same : reply_of command r.input ≡ reply_of command input = same_reply command left left' old new r.input input r.read is in
        inr (whole.0 ∙ ap (λ (a : Reply). code_of a.outcome) same, rw (ap (λ (a : Reply). a.text) same) at whole.1)
    | inr rest ↦ elim rest [
      | inl part ↦ absurd (calm part.2)
      | inr none ↦ inl none.0
    ]
  ]

  pub ran_write_fault : code ≡ 7 → HasRisen (faults sink) (faults sink')
  ran_write_fault seven = elim r.reply [
    | inl whole ↦ absurd (omega (arith, whole.0, low (reply_of command r.input).outcome))
    | inr rest ↦ elim rest [
      | inl part ↦ part.2
      | inr none ↦ (let is : code ≡ 8 = none.0 in absurd (omega arith))
    ]
  ]

  pub ran_write_told : faults sink < faults sink' → code ≡ 7
  ran_write_told risen = elim r.reply [
    | inl whole ↦ (let is : faults sink' ≡ faults sink = whole.2 in absurd (omega arith))
    | inr rest ↦ elim rest [
      | inl part ↦ part.0
      | inr none ↦ (let is : faults sink' ≡ faults sink = ap faults none.1 in absurd (omega arith))
    ]
  ]

-- the status of such a run, from all that it can be
pub not_six : {Z : Type 0} (code : ℕ) → (code ≤ 5) ⊎ ((code ≡ 7) ⊎ (code ≡ 8)) → code ≡ 6 → Z
not_six code which six = absurd (omega (arith, which))

pub at_most_eight : (code : ℕ) → (code ≤ 5) ⊎ ((code ≡ 7) ⊎ (code ≡ 8)) → code ≤ 8
at_most_eight code which = omega (arith, which)

-- ---- a run that has not

-- An error tells a fault.
pub told : {T E P : Type 0} (e e' : E) → e ≡ e' → (◌≡◌ {A = Result T E} (Err e) (Err e') → P) → P
told e e' is says = says (ap Err is)

-- A source that was read and failed tells no input.
no_input : {Z : Type 0} (reads : Bool) (left : Option (List ℕ)) (old new : ℕ) (input : List ℕ) → (reads ≡ false → ⊥) → HasRisen old new → IsInput reads left old new input → Z
no_input true left old new input reading risen is = absurd (is.1 risen)
no_input false left old new input reading risen is = absurd (reading refl)

pub untold : {Z : Type 0} {command command' : Option Command} {reads : Bool} (left : Option (List ℕ)) {old new : ℕ} (input : List ℕ) → command ≡ command' → reads ≡ reads_input command →
    (reads ≡ false → false ≡ true) → HasRisen old new → IsInput (reads_input command') left old new input → Z
untold {command'} left {old} {new} input is needs reading risen given =
    no_input (reads_input command') left old new input (λ none. false≢true (reading (needs ∙ ap reads_input is ∙ none))) risen given

-- Nothing was read, so the command reads.
pub must_read : {Z : Type 0} {command command' : Option Command} {reads : Bool} → command ≡ command' → reads ≡ reads_input command → (reads ≡ false → false ≡ true) → command' ≡ None → Z
must_read is needs reading none = absurd (false≢true (reading (needs ∙ ap reads_input (is ∙ none))))
