-- What an audit answers is one function of what it is asked.
use Rattle.std.proofs.Common.{◌≡◌, ◌⊎◌, inl, inr, ℕ, ◌+◌, suc, ◌<◌, List, [], ◌++◌, All, length, take, Option, None, Some, false, refl, ap, sym, subst, ◌∙◌, arith}
use Rattle.std.specs.Prelude.{⊤, Result, Ok, Err, IsErrAnd}
use Rattle.std.proofs.lemmas.List.Elements.{All-map}
use Rattle.sc_definitions.specs.declared.events.Event.{Event}
use Rattle.sc_definitions.specs.Events.{NonePasses}
use Rattle.sc_definitions.specs.Transcript.{Round, rounds_events}
use Rattle.sc_definitions.specs.Replays.{round_passes, AllPass, given_rounds}
use Rattle.sc_definitions.specs.Problem.{honest_of}
use Rattle.sc_definitions.proofs.WitnessLaws.{AreLow, honest_rounds-whole, honest_rounds-none, none_passes, first_failing-at, first_failing-none}
use Rattle.sc_audit_errors.specs.declared.error.AuditError.{AuditError}
use Rattle.sc_audit_errors.specs.declared.error.AuditError.TheVariants.{InvalidPowWitness, NoWitness, NoMemory}
use Rattle.sc_jobs.specs.declared.report.Report.{Report}
use Rattle.sc_jobs.specs.Cases.{Task, build, check, Asked, start_of}
use Rattle.sc_jobs.specs.Refusals.{or_later, shape_refusal, task_refusal, refusal_of}
use Rattle.sc_jobs.specs.Stated.{RefusesShape}
use Rattle.sc_jobs.specs.Figures.{Figures, Reported, figures_of, report_in}
use Rattle.sc_jobs.specs.Audits.{AreRounds, IsPlayed, IsAudited, WitnessFails, FindsNoWitness, IsCaused, IsRefusedBy, IsAnswer, figures_from, grids_for}
use Rattle.sc_jobs.specs.Results.{or_no_witness, unless_failing, passing_rounds, rounds_of, report_of, if_unrefused, answer_to, GivesAnswer}

-- where there is a report there was no refusal
no_refusal : {T : Type 0} (x : T) (first : Option AuditError) → IsRefusedBy first (Ok x) → first ≡ None
no_refusal x None told = refl
no_refusal x (Some e) told = elim told [ inl t ↦ cc | inr t ↦ cc ]

module _ (q : Asked) where
  -- a refusal before a round is the answer
  refused-answer : (e : AuditError) → refusal_of q ≡ Some e → answer_to q ≡ Err e
  unfolding answer_to
  refused-answer e is = ap (λ first. if_unrefused first (report_of q (rounds_of q q.case.task))) is

  -- else it comes of the rounds
  played-answer : (r : Result (List Round) AuditError) → refusal_of q ≡ None → rounds_of q q.case.task ≡ r → answer_to q ≡ report_of q r
  unfolding answer_to
  played-answer r none is = ap (λ first. if_unrefused first (report_of q (rounds_of q q.case.task))) none ∙ ap (report_of q) is

  -- the witnesses of rounds that are built are numbers of elements
  abbrev AreLowIfBuilt : Task → List Round → Type 0
  AreLowIfBuilt (build strategy) rounds = AreLow q.channel.base_size q.channel.bits rounds
  AreLowIfBuilt (check proof) rounds = ⊤

  -- rounds that were played whole are those that were asked for
  rounds-whole : (task : Task) (rounds : List Round) → AreLowIfBuilt task rounds → length rounds ≡ q.case.problem.variables →
      AllPass q.channel.rules q.channel.extension q.channel.bits (start_of q).history rounds → AreRounds q task rounds → rounds_of q task ≡ Ok rounds
  rounds-whole (build strategy) rounds low count passes are =
      ap or_no_witness (honest_rounds-whole q.channel.rules q.channel.extension q.channel.base_size (honest_of q.ops q.case.problem) q.channel.bits (start_of q).history [] q.case.problem.variables rounds count low are)
  rounds-whole (check None) rounds low count passes are = ap Ok (sym are)
  rounds-whole (check (Some given)) rounds low count passes are =
      ap (passing_rounds q.channel.rules q.channel.extension q.channel.bits (start_of q).history) (sym are)
      ∙ ap (λ failing. unless_failing failing q.channel.bits rounds) (first_failing-none q.channel.rules q.channel.extension q.channel.bits (start_of q).history rounds passes)

  -- figures with the grids of what is done, as a report
  abbrev reported : Figures → Reported
  reported figures = record { figures = figures; grids = grids_for q }

  played-whole : (figures : Figures) (h' : List Event) → refusal_of q ≡ None → (a : IsPlayed q figures h') → AreLowIfBuilt q.case.task a.rounds →
      answer_to q ≡ Ok (reported figures)
  played-whole figures h' none a low =
      played-answer (Ok a.rounds) none (rounds-whole q.case.task a.rounds low a.count a.passes a.are)
      ∙ ap (λ (f : Figures). Ok (reported f)) (sym a.is)

  -- the witnesses of figures are those of their rounds
  low-if_built : (task : Task) (figures : Figures) (rounds : List Round) → figures ≡ figures_from q rounds → All (λ w. w < q.channel.base_size) figures.witnesses → AreLowIfBuilt task rounds
  unfolding figures_of
  low-if_built (build strategy) figures rounds is low = subst (All (λ w. w < q.channel.base_size)) (ap (λ (f : Figures). f.witnesses) is) low
  low-if_built (check proof) figures rounds is low = tt

  -- a report whose witnesses are numbers of elements is the answer
  reported-answer : (report : Reported) (h' : List Event) → refusal_of q ≡ None → All (λ w. w < q.channel.base_size) report.figures.witnesses → IsAudited q report h' →
      answer_to q ≡ Ok report
  reported-answer report h' none low a =
      played-whole report.figures h' none a.played (low-if_built q.case.task report.figures a.played.rounds a.played.is low)
      ∙ ap (λ (grids : List (List ℕ × List ℕ)). Ok (record { figures = report.figures; grids = grids })) (sym a.grids)

  -- the rounds of a proof whose witness fails are refused for the first that does
  rounds-failing : (task : Task) (i : ℕ) (h' : List Event) → WitnessFails q task i h' → rounds_of q task ≡ Err (InvalidPowWitness i q.channel.bits)
  rounds-failing (build strategy) i h' f = absurd f
  rounds-failing (check None) i h' f = absurd f
  rounds-failing (check (Some given)) i h' f =
      let R = q.channel.rules in
      let E = q.channel.extension in
      let bits = q.channel.bits in
      let v = f.at in
      let rounds = given_rounds given.messages given.witnesses in
      let fails : round_passes R E bits ((start_of q).history ++ rounds_events E bits (take i rounds)) v.round ≡ false =
      ap (λ t. round_passes R E bits t v.round) (sym v.replays.history) ∙ v.test.fails in
      ap (λ failing. unless_failing failing bits rounds) (first_failing-at R E bits (start_of q).history rounds i v.round v.replays.passes v.is fails)

  -- rounds that are built stop where no witness is found
  rounds-without : (task : Task) (i : ℕ) → q.case.task ≡ task → FindsNoWitness q task i → rounds_of q task ≡ Err (NoWitness i)
  rounds-without (build strategy) i is u =
      let R = q.channel.rules in
      let E = q.channel.extension in
      let bits = q.channel.bits in
      let size = q.channel.base_size in
      let some : length u.rounds + suc u.left ≡ q.case.problem.variables = omega (arith, u.count, u.some) in
      let built : AreRounds q (build strategy) u.rounds = subst (λ t. AreRounds q t u.rounds) is u.built in
      let none = subst (λ t. NonePasses R t bits size) u.none.history u.none.none_passes in
      ap or_no_witness (honest_rounds-none R E size (honest_of q.ops q.case.problem) bits (start_of q).history [] q.case.problem.variables u.rounds u.left some u.low built
      (none_passes R E size bits _ u.none.positive none))
      ∙ ap (λ k. Err (NoWitness k)) u.count
  rounds-without (check proof) i is u = absurd u

  -- an answer without a report
  caused-answer : (e : AuditError) (h' : List Event) → refusal_of q ≡ None → IsCaused (refusal_of q) q h' e → (e ≡ NoMemory) ⊎ (answer_to q ≡ Err e)
  caused-answer (InvalidPowWitness i bits) h' none cause =
      inr (played-answer (Err (InvalidPowWitness i q.channel.bits)) none (rounds-failing q.case.task i h' cause.1) ∙ ap (λ b. Err (InvalidPowWitness i b)) (sym cause.0))
  caused-answer (NoWitness i) h' none cause = inr (played-answer (Err (NoWitness i)) none (rounds-without q.case.task i refl cause.0))
  caused-answer NoMemory h' none cause = inl refl
  caused-answer e h' none cause = inr (refused-answer e cause.0)

  -- the same where every refusal before a round is answered
  told-answer : (T : Type 0) (first : Option AuditError) (e : AuditError) (h' : List Event) → refusal_of q ≡ first → IsRefusedBy {T = T} first (Err e) →
      IsCaused (refusal_of q) q h' e → (e ≡ NoMemory) ⊎ (answer_to q ≡ Err e)
  told-answer T None e h' first told cause = caused-answer e h' first cause
  told-answer T (Some e') e h' first told cause = elim told [
    | inl t ↦ (let same : e ≡ e' = cc in inr (refused-answer e' first ∙ ap Err (sym same)))
    | inr t ↦ inl (let same : e ≡ NoMemory = cc in same)
  ]

-- what is answered is the function's value, or want of memory
pub answer-given : {F EF : Type 0} (base : F → ℕ) (number : EF → ℕ) (q : Asked) (result : Result (Report F EF) AuditError) (h' : List Event) →
    ((x : F) → base x < q.channel.base_size) → IsAnswer base number q result h' → GivesAnswer base number (answer_to q) result
answer-given {F = F} {EF = EF} base number q (Ok r) h' low a =
    reported-answer q (report_in base number r) h' (no_refusal r (refusal_of q) a.refused)
    (All-map (λ w. w < q.channel.base_size) base r.rounds.pow_witnesses.items (λ k d less. low _)) a.answers
answer-given {F = F} {EF = EF} base number q (Err e) h' low a = told-answer q (Report F EF) (refusal_of q) e h' refl a.refused a.answers

-- a shape that is refused is the answer, or there was no memory
pub shape-given : (q : Asked) (first : Option AuditError) (e : AuditError) → shape_refusal q ≡ first → RefusesShape first e → (e ≡ NoMemory) ⊎ (answer_to q ≡ Err e)
shape-given q first NoMemory is refused = inl refl
shape-given q first e is refused = inr (refused-answer q e (ap (λ f. or_later f (task_refusal q)) (is ∙ refused)))

-- a refusal that is passed on
pub given_err : {F EF : Type 0} (base : F → ℕ) (number : EF → ℕ) (answer : Result Reported AuditError) (r : Result (Report F EF) AuditError) (e : AuditError) →
    IsErrAnd r (λ x. x ≡ e) → (e ≡ NoMemory) ⊎ (answer ≡ Err e) → GivesAnswer base number answer r
given_err base number answer (Ok x) e is given = elim is [ ]
given_err base number answer (Err x) e is given = subst (λ y. (y ≡ NoMemory) ⊎ (answer ≡ Err y)) (sym is) given
