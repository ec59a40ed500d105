-- A lucky challenge is named, and certified.
use Rattle.std.proofs.Common.{◌≡◌, ℕ, Bool, true, false, List, [], ◌∷◌, length, map, All, Option, Some, None, Result, Ok, Err, IfOk, refl, sym, ◌∙◌, ap, subst, arith, eq-eqb, suc, ◌<◌}
use Rattle.std.specs.Option.{option_map}
use Rattle.std.proofs.lemmas.Bool.{eqb-true}
use Rattle.std.proofs.lemmas.Option.{same_Some}
use Rattle.std.proofs.lemmas.List.Elements.{All-cons, All-append, All-map}
use Rattle.sc_definitions.specs.declared.events.Event.{Event}
use Rattle.sc_definitions.specs.declared.false_claim.FalseClaim.{FalseClaim}
use Rattle.sc_definitions.specs.Ring.{Ops, IsField, times}
use Rattle.sc_definitions.specs.Tables.{IsOffered}
use Rattle.sc_definitions.specs.Statements.{Kind, Statement, IsTrueOf, AllTrueOf, first_false_claim, claimed_values}
use Rattle.sc_definitions.specs.Transcript.{messages_of}
use Rattle.sc_definitions.specs.Problem.{Problem}
use Rattle.sc_definitions.specs.Lucky.{LuckyChallenge, luck_of, IsCertified}
use Rattle.sc_definitions.proofs.StatementLaws.{first_false_claim-true, first_false_claim-none}
use Rattle.sc_definitions.proofs.BuildLaws.{first_false_claim-all}
use Rattle.sc_definitions.proofs.BuiltLaws.{length-messages, length-challenges}
use Rattle.sc_definitions.proofs.ReplayLaws.{messages-given_rounds}
use Rattle.sc_definitions.proofs.LuckyLaws.{AllSend, IsPair, luck-certified}
use Rattle.sc_table.specs.declared.strategy.RoundMessage.{RoundMessage}
use Rattle.sc_table.specs.declared.strategy.Strategy.{Strategy}
use Rattle.sc_statements.specs.declared.evaluated.EvaluatedConstraint.{EvaluatedConstraint}
use Rattle.sc_constraints.specs.declared.statement.Statements.{Statements}
use Rattle.sc_constraints.specs.declared.statement.Statements.TheVariants.{Eq, Next, Select}
use Rattle.sc_statements.specs.Lists.{evaluated_all}
use Rattle.sc_statements.specs.EqStatements.{point_kind}
use Rattle.sc_statements.specs.NextStatements.{next_kind}
use Rattle.sc_statements.specs.SelectStatements.{claims_of, select_kinds}
use Rattle.sc_constraints.specs.Groups.{group_statements, all_statements}
use Rattle.sc_transcript.specs.declared.data.SumcheckData.{SumcheckData}
use Rattle.sc_transcript.specs.Data.{pair_of}
use Rattle.sc_jobs.specs.declared.report.Report.{Report}
use Rattle.sc_jobs.specs.declared.report.Verdict.TheVariants.{Holds}
use Rattle.sc_audit_errors.specs.declared.error.AuditError.{AuditError}
use Rattle.sc_jobs.specs.Cases.{Given, Task, build, check, Asked, given_in}
use Rattle.sc_audit_errors.specs.Findings.{holds, lucky, named}
use Rattle.sc_jobs.specs.Figures.{Figures, finding_by, false_claim_of, is_matched, figures_of, finding_in, report_in}
use Rattle.sc_jobs.specs.Audits.{AreRounds, IsPlayed, Answers, HoldsIfBuilt}
use Rattle.sc_jobs.specs.Certified.{CertifiesLuck}

-- ---- what statements claim are numbers of elements

module _ {F EF : Type 0} (of : F → ℕ) (number : EF → ℕ) (n : ℕ) (below : (x : EF) → number x < n) where
  abbrev IsLow : Statement → Type 0
  IsLow s = s.claimed < n

  evaluated-low : {W : Type 0} (kind : W → Kind) (cs : List (EvaluatedConstraint W EF)) → All IsLow (evaluated_all kind number cs)
  evaluated-low kind [] = λ k d less. absurd (omega (arith, less))
  evaluated-low kind (c ∷ cs) = All-cons IsLow _ _ (below c.eval) (evaluated-low kind cs)

  selected-low : (kinds : List Kind) (xs : List EF) → All IsLow (claims_of kinds (map number xs))
  selected-low [] xs = λ k d less. absurd (omega (arith, less))
  selected-low (kind ∷ kinds) [] = λ k d less. absurd (omega (arith, less))
  selected-low (kind ∷ kinds) (x ∷ xs) = All-cons IsLow _ _ (below x) (selected-low kinds xs)

  group-low : (g : Statements F EF) → All IsLow (group_statements of number g)
  group-low (Eq s) = evaluated-low (point_kind number) s.constraints.items
  group-low (Next s) = evaluated-low (next_kind number) s.constraints.items
  group-low (Select s) = selected-low (select_kinds of s) s.evaluations.items

  groups-low : (groups : List (Statements F EF)) → All IsLow (all_statements of number groups)
  groups-low [] = λ k d less. absurd (omega (arith, less))
  groups-low (g ∷ groups) = All-append IsLow _ _ (group-low g) (groups-low groups)

  pub claimed-low : (groups : List (Statements F EF)) → All (λ c. c < n) (claimed_values (all_statements of number groups))
  claimed-low groups = All-map (λ c. c < n) (λ (s : Statement). s.claimed) _ (groups-low groups)

-- ---- what a proof sends are pairs

pairs_sent : {EF : Type 0} (number : EF → ℕ) (messages : List (RoundMessage EF)) → AllSend IsPair (map (pair_of number) messages)
pairs_sent number [] = tt
pairs_sent number (m ∷ messages) = (refl, pairs_sent number messages)

-- the messages of a proof that is checked are pairs
abbrev pub SendsPairs : Task → Type 0
SendsPairs (build strategy) = Unit {0}
SendsPairs (check None) = Unit {0}
SendsPairs (check (Some given)) = AllSend IsPair given.messages

pub proof_pairs : {F EF : Type 0} (base : F → ℕ) (number : EF → ℕ) (proof : Option (SumcheckData F EF)) → SendsPairs (check (option_map (given_in base number) proof))
proof_pairs base number None = tt
proof_pairs base number (Some d) = pairs_sent number d.polynomial_evaluations.items

-- ---- what is found

-- where a challenge is named lucky the residual is right, a statement is false, and it is the first one
lucky_by : (b : Bool) (fault : Option FalseClaim) (luck : Option LuckyChallenge) (l : LuckyChallenge) → finding_by b fault luck ≡ lucky l → (b ≡ true) × (fault ≡ None → ⊥) × (luck ≡ Some l)
lucky_by false fault luck l e = cc
lucky_by true None luck l e = cc
lucky_by true (Some c) None l e = cc
lucky_by true (Some c) (Some k) l e = let same : k ≡ l = cc in (refl, (λ n. cc), ap Some same)

named_by : (b : Bool) (fault : Option FalseClaim) (luck : Option LuckyChallenge) (l : LuckyChallenge) → b ≡ true → (fault ≡ None → ⊥) → luck ≡ Some l → finding_by b fault luck ≡ lucky l
named_by false fault luck l right some is = cc
named_by true None luck l right some is = absurd (some refl)
named_by true (Some c) luck l right some is = ap named is

-- where it holds no statement is false
held_by : (fault : Option FalseClaim) (luck : Option LuckyChallenge) → finding_by true fault luck ≡ holds → fault ≡ None
held_by None luck e = refl
held_by (Some c) None e = cc
held_by (Some c) (Some l) e = cc

all-none_false : (o : Ops) (n : ℕ) (f : ℕ → ℕ) (i : ℕ) (ss : List Statement) → AllTrueOf o n f ss → first_false_claim o n f i ss ≡ None
unfolding IsTrueOf
all-none_false o n f i [] all = first_false_claim-none o n f i
all-none_false o n f i (s ∷ ss) all = first_false_claim-true o n f i s ss all.0 ∙ all-none_false o n f (suc i) ss all.1

-- ---- figures

module _ (o : Ops) (field : IsField o) (p : Problem) (offered : IsOffered p.basis p.order) (low : All (λ c. c < o.size) (claimed_values p.statements)) where
  -- those of pairs, one for each variable, with their challenges
  pub certified_pairs : (f : Figures) (messages : List (List ℕ)) (witnesses rs : List ℕ) → f ≡ figures_of o p messages witnesses rs →
      length messages ≡ p.variables → length rs ≡ p.variables → AllSend IsPair messages → CertifiesLuck o p f
  unfolding figures_of
  certified_pairs f messages witnesses rs is count drawn pairs =
      let fault = false_claim_of o p in
      let luck = luck_of o p messages rs in
      subst (CertifiesLuck o p) (sym is) (record {
        named = λ l found.
            let by = lucky_by (is_matched o p messages rs) fault luck l found in
            let first = luck-certified o field p offered low (λ all. by.1 (all-none_false o p.variables p.table 0 p.statements all)) messages rs count drawn pairs (eqb-true _ _ by.0) in
            let same : first.0 ≡ l = same_Some _ _ (sym first.1 ∙ by.2) in
            subst (IsCertified o p rs) same first.2;
        no_other = λ right some.
            let first = luck-certified o field p offered low some messages rs count drawn pairs right in
            (first.0, named_by _ fault luck first.0 (eq-eqb _ _ right) (λ none. some (first_false_claim-all o p.variables p.table 0 p.statements none)) first.1);
      })

  -- those that hold
  pub certified_held : (f : Figures) (messages : List (List ℕ)) (witnesses rs : List ℕ) → f ≡ figures_of o p messages witnesses rs → f.finding ≡ holds → CertifiesLuck o p f
  unfolding figures_of
  certified_held f messages witnesses rs is held =
      let luck = luck_of o p messages rs in
      let none : is_matched o p messages rs ≡ true → false_claim_of o p ≡ None = λ matched.
      held_by (false_claim_of o p) luck
      (ap (λ b. finding_by b (false_claim_of o p) luck) (sym matched) ∙ ap (λ (g : Figures). g.finding) (sym is) ∙ held) in
      record {
        named = λ l found. cc;
        no_other = λ right some.
            absurd (some (first_false_claim-all o p.variables p.table 0 p.statements
            (none (eq-eqb _ _ (ap (λ (g : Figures). g.residual) (sym is) ∙ right ∙ ap (λ (g : Figures). times o g.eval g.weight) is)))));
      }

-- ---- reports

module _ (q : Asked) (field : IsField q.ops) (offered : IsOffered q.case.problem.basis q.case.problem.order)
    (low : All (λ c. c < q.ops.size) (claimed_values q.case.problem.statements)) where
  certified_by : (task : Task) (figures : Figures) (h' : List Event) (played : IsPlayed q figures h') → AreRounds q task played.rounds → HoldsIfBuilt task figures → SendsPairs task →
      CertifiesLuck q.ops q.case.problem figures
  certified_by (build strategy) figures h' played are held pairs = certified_held q.ops field q.case.problem offered low figures _ _ _ played.is held
  certified_by (check None) figures h' played are held pairs =
      certified_pairs q.ops field q.case.problem offered low figures _ _ _ played.is (length-messages played.rounds ∙ played.count)
      (length-challenges _ _ _ _ played.rounds ∙ played.count) (subst (λ rounds. AllSend IsPair (messages_of rounds)) (sym are) tt)
  certified_by (check (Some given)) figures h' played are held pairs =
      certified_pairs q.ops field q.case.problem offered low figures _ _ _ played.is (length-messages played.rounds ∙ played.count)
      (length-challenges _ _ _ _ played.rounds ∙ played.count)
      (subst (λ rounds. AllSend IsPair (messages_of rounds)) (sym are) (subst (AllSend IsPair) (sym (messages-given_rounds given.messages given.witnesses)) pairs))

  pub certified_answer : {F EF : Type 0} (base : F → ℕ) (number : EF → ℕ) (first : Option AuditError) (result : Result (Report F EF) AuditError) (h' : List Event) (task : Task) →
      q.case.task ≡ task → Answers base number first q result h' → IfOk result (λ r. HoldsIfBuilt task (report_in base number r).figures) → SendsPairs task →
      IfOk result (λ r. CertifiesLuck q.ops q.case.problem (report_in base number r).figures)
  certified_answer base number first (Ok r) h' task is answers held pairs =
      certified_by task (report_in base number r).figures h' answers.played (subst (λ t. AreRounds q t answers.played.rounds) is answers.played.are) held pairs
  certified_answer base number first (Err e) h' task is answers held pairs = tt

-- a report whose verdict is that it holds
pub held_figures : {F EF : Type 0} (base : F → ℕ) (number : EF → ℕ) (strategy : Strategy) (result : Result (Report F EF) AuditError) →
    IfOk result (λ r. r.verdict ≡ Holds) → IfOk result (λ r. HoldsIfBuilt (build strategy) (report_in base number r).figures)
held_figures base number strategy (Ok r) is = ap (finding_in number) is
held_figures base number strategy (Err e) is = tt

-- the same of a task by another name
pub held-as : {F EF : Type 0} (base : F → ℕ) (number : EF → ℕ) (result : Result (Report F EF) AuditError) {t t' : Task} → t ≡ t' →
    IfOk result (λ r. HoldsIfBuilt t' (report_in base number r).figures) → IfOk result (λ r. HoldsIfBuilt t (report_in base number r).figures)
held-as base number result same held = subst (λ s. IfOk result (λ r. HoldsIfBuilt s (report_in base number r).figures)) (sym same) held

-- nothing is asked of a report on a proof
pub unheld : {F EF : Type 0} (base : F → ℕ) (number : EF → ℕ) (proof : Option Given) (result : Result (Report F EF) AuditError) →
    IfOk result (λ r. HoldsIfBuilt (check proof) (report_in base number r).figures)
unheld base number proof (Ok r) = tt
unheld base number proof (Err e) = tt
