-- The figures that a job is answered are certified.
use Rattle.std.proofs.Common.{◌≡◌, ℕ, suc, ◌<◌, List, [], ◌∷◌, length, map, All, Option, Some, None, refl, sym, ◌∙◌, ap, subst, arith, inl, inr}
use Rattle.std.specs.Prelude.{Result, Ok, Err}
use Rattle.std.proofs.lemmas.Bool.Decides.{eqb_tells}
use Rattle.std.proofs.lemmas.List.Elements.{All-append, All-map}
use Rattle.sc_definitions.specs.Ring.{IsField}
use Rattle.sc_definitions.specs.Tables.{IsOffered}
use Rattle.sc_definitions.specs.Statements.{Statement, claimed_values}
use Rattle.sc_definitions.specs.Transcript.{Round, messages_of}
use Rattle.sc_definitions.specs.Replays.{given_rounds}
use Rattle.sc_definitions.specs.Problem.{honest_of}
use Rattle.sc_definitions.proofs.BuiltLaws.{length-messages, length-challenges}
use Rattle.sc_definitions.proofs.ReplayLaws.{length-given_rounds, messages-given_rounds}
use Rattle.sc_definitions.proofs.LuckyLaws.{AllSend, IsPair}
use Rattle.sc_jobs.specs.Cases.{Given, Task, build, check, Asked, start_of}
use Rattle.sc_jobs.specs.Refusals.{missing_refusal, count_refusal, shape_refusal, refusal_for, refusal_of}
use Rattle.sc_jobs.specs.Audits.{figures_from}
use Rattle.sc_jobs.specs.Certified.{CertifiesLuck}
use Rattle.sc_jobs.proofs.CountLaws.{count-rounds}
use Rattle.sc_jobs.proofs.Certified.{SendsPairs, certified_pairs, certified_held}
use Rattle.sumcheck_members.specs.declared.job.Group.{Group}
use Rattle.sumcheck_members.specs.declared.job.Group.TheVariants.{Equality, Successor, Scalars, Products}
use Rattle.sumcheck_audit.specs.declared.job.Job.{Job}
use Rattle.sumcheck_audit.specs.declared.job.Mode.{Mode}
use Rattle.sumcheck_audit.specs.declared.job.Mode.TheVariants.{Build, Check}
use Rattle.sumcheck_members.specs.declared.job.Sizes.{Sizes}
use Rattle.sumcheck_members.specs.Elements.{sizes_of}
use Rattle.sumcheck_members.specs.Statements.{equality_statement, successor_statement, scalar_statement, product_statement, group_claims, all_claims, GroupFits}
use Rattle.sumcheck_audit.specs.Job.{JobFits}
use Rattle.sumcheck_replies.specs.Fields.{fields_of}
use Rattle.sc_definitions.proofs.WitnessLaws.{IsBuiltOr, honest_rounds-built}
use Rattle.sumcheck_audit.specs.Report.{values_of, task_of, asked_by}
use Rattle.sc_jobs.specs.Results.{or_no_witness, unless_failing, rounds_of}
use Rattle.sumcheck_audit.specs.CertifiedJobs.{AreCertified, IsCertifiedJob}
use Rattle.sumcheck_replies.proofs.FieldLaws.{fields_field, sizes-are}
use Rattle.sumcheck_audit.proofs.OfferedJobs.{unrefused-offered}
use Rattle.sumcheck_audit.proofs.BuildReplies.{or_later-none, all-true, built-finding}

-- ---- rounds that are played

witnessed : (r : Result (List Round) ℕ) (rounds : List Round) → or_no_witness r ≡ Ok rounds → r ≡ Ok rounds
witnessed (Ok x) rounds e = let same : x ≡ rounds = cc in ap Ok same
witnessed (Err i) rounds e = cc

passed : (failing : Option ℕ) (bits : ℕ) (all rounds : List Round) → unless_failing failing bits all ≡ Ok rounds → rounds ≡ all
passed None bits all rounds e = cc
passed (Some i) bits all rounds e = cc

no_variables : (n : ℕ) → missing_refusal n ≡ None → n ≡ 0
no_variables n none = elim (eqb_tells n 0) [ inl t ↦ t.1 | inr t ↦ (let some = rw t.0 at none in cc) ]

counted : (n bits : ℕ) (g : Given) → count_refusal n bits g ≡ None → length g.messages ≡ n
counted n bits g none = elim (eqb_tells (length g.messages) n) [
  | inl t ↦ t.1
  | inr t ↦ (let clash = sym (count-rounds n bits g t.1) ∙ none in cc)
]

module _ (q : Asked) (field : IsField q.ops) (offered : IsOffered q.case.problem.basis q.case.problem.order)
    (low : All (λ c. c < q.ops.size) (claimed_values q.case.problem.statements)) where
  certified_pairs_of : (rounds : List Round) → length rounds ≡ q.case.problem.variables → AllSend IsPair (messages_of rounds) → CertifiesLuck q.ops q.case.problem (figures_from q rounds)
  certified_pairs_of rounds count pairs =
      certified_pairs q.ops field q.case.problem offered low (figures_from q rounds) _ _ _ refl (length-messages rounds ∙ count)
      (length-challenges q.channel.rules q.channel.extension q.channel.bits (start_of q).history rounds ∙ count) pairs

  certified_task : (task : Task) → q.case.task ≡ task → refusal_of q ≡ None → SendsPairs task → (rounds : List Round) → rounds_of q task ≡ Ok rounds →
      CertifiesLuck q.ops q.case.problem (figures_from q rounds)
  certified_task (build strategy) is none pairs rounds played =
      let R = q.channel.rules in
      let E = q.channel.extension in
      let honest = honest_of q.ops q.case.problem in
      let h = (start_of q).history in
      let n = q.case.problem.variables in
      let built = subst (IsBuiltOr R E q.channel.base_size honest q.channel.bits h [] n) (witnessed _ rounds played)
      (honest_rounds-built R E q.channel.base_size honest q.channel.bits h [] n) in
      certified_held q.ops field q.case.problem offered low (figures_from q rounds) _ _ _ refl
      (built-finding q field.ring offered (all-true q strategy is none) rounds built.0 built.1)
  certified_task (check None) is none pairs rounds played =
      let done : refusal_for q (check None) ≡ None = sym (ap (refusal_for q) is) ∙ or_later-none (shape_refusal q) _ none in
      let same : [] ≡ rounds = cc in
      subst (λ l. CertifiesLuck q.ops q.case.problem (figures_from q l)) same (certified_pairs_of [] (sym (no_variables q.case.problem.variables done)) tt)
  certified_task (check (Some given)) is none pairs rounds played =
      let done : refusal_for q (check (Some given)) ≡ None = sym (ap (refusal_for q) is) ∙ or_later-none (shape_refusal q) _ none in
      let all = given_rounds given.messages given.witnesses in
      let same : rounds ≡ all = passed _ q.channel.bits all rounds played in
      subst (λ l. CertifiesLuck q.ops q.case.problem (figures_from q l)) (sym same)
      (certified_pairs_of all (length-given_rounds given.messages given.witnesses ∙ counted q.case.problem.variables q.channel.bits given done)
      (subst (AllSend IsPair) (sym (messages-given_rounds given.messages given.witnesses)) pairs))

  pub certified : SendsPairs q.case.task → AreCertified q
  certified pairs none rounds played = certified_task q.case.task refl none pairs rounds played

-- ---- what a job claims are numbers of elements

module _ (embedding : ℕ → ℕ) (sizes : Sizes) (variables : ℕ) where
  abbrev IsLow : Statement → Type 0
  IsLow s = s.claimed < sizes.extension

  group-low : (g : Group) → GroupFits sizes variables g → All IsLow (group_claims embedding g)
  group-low (Equality cs) fits = All-map IsLow equality_statement cs (λ k d less. (fits k d less).value)
  group-low (Successor cs) fits = All-map IsLow successor_statement cs (λ k d less. (fits k d less).value)
  group-low (Scalars cs) fits = All-map IsLow (scalar_statement embedding) cs (λ k d less. (fits k d less).value)
  group-low (Products cs) fits = All-map IsLow (product_statement embedding) cs (λ k d less. (fits k d less).value)

  groups-low : (groups : List Group) → All (GroupFits sizes variables) groups → All IsLow (all_claims embedding groups)
  groups-low [] fits = λ k d less. absurd (omega (arith, less))
  groups-low (g ∷ groups) fits = All-append IsLow _ _ (group-low g (fits 0 g (omega arith))) (groups-low groups (λ k d less. fits (suc k) d (omega (arith, less))))

  claims-low : (groups : List Group) → All (GroupFits sizes variables) groups → All (λ c. c < sizes.extension) (claimed_values (all_claims embedding groups))
  claims-low groups fits = All-map (λ c. c < sizes.extension) (λ (s : Statement). s.claimed) _ (groups-low groups fits)

-- ---- jobs

pairs_sent : (rounds : List (ℕ × ℕ)) → AllSend IsPair (map values_of rounds)
pairs_sent [] = tt
pairs_sent (pair ∷ rounds) = (refl, pairs_sent rounds)

mode_pairs : (mode : Mode) → SendsPairs (task_of mode)
mode_pairs (Build strategy) = tt
mode_pairs (Check None) = tt
mode_pairs (Check (Some proof)) = pairs_sent proof.rounds

pub job_certified : (job : Job) → JobFits (sizes_of job.stated.field) job → IsCertifiedJob job
job_certified job fits none =
    let k = fields_of job.stated.field in
    certified (asked_by k job) (fields_field job.stated.field) (unrefused-offered (asked_by k job) none)
    (subst (λ n. All (λ c. c < n) (claimed_values (all_claims k.embedding job.stated.groups))) (sizes-are job.stated.field)
    (claims-low k.embedding (sizes_of job.stated.field) job.stated.variables job.stated.groups fits.stated.groups))
    (mode_pairs job.mode) none
