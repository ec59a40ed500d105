use Rattle.std.proofs.Common.{◌≡◌, true, false, inr, sym, ◌∙◌, ap, subst, rules}
use Rattle.std.specs.Prelude.{[], IfOk}
use Rattle.sc_jobs.specs.Audits.{HoldsIfBuilt}
use Rattle.sc_jobs.specs.Certified.{CertifiesLuck}
use Rattle.sc_jobs.specs.Figures.{report_in}
use Rattle.sc_jobs.specs.Results.{answer_to}
use Rattle.sumcheck_replies.specs.Fields.{Fields}
use Rattle.sumcheck_tables.specs.Tables.{GivesTable, audited, rules_of}
use Rattle.sumcheck_tables.specs.Views.{case_in, draws_in}
use Rattle.sumcheck_tables.proofs.AnswerLaws.{answer-unpointed, answer-foreign, answer-audited}
use Rattle.sumcheck_tables.proofs.answer.audit_table.Goals as goal

pub returns-then-not-has_points-clause-given : goal.returns-then-not-has_points-clause-given
returns-then-not-has_points-clause-given g c =
    let k : Fields = record { ops = g.EF.Field.ops; base = g.F.Field.ops; extension = g.EF.ExtensionField.extension; embedding = g.EF.Algebra.embedding } in
    let other : c.has_points.result ≡ false = search rules in
    inr (answer-unpointed k (case_in c.args.job.now) (sym c.has_points.ensures ∙ other))

pub returns-then-not-is_over-clause-given : goal.returns-then-not-is_over-clause-given
returns-then-not-is_over-clause-given g c =
    let k : Fields = record { ops = g.EF.Field.ops; base = g.F.Field.ops; extension = g.EF.ExtensionField.extension; embedding = g.EF.Algebra.embedding } in
    let pointed : c.has_points.result ≡ true = search rules in
    let other : c.is_over.result ≡ false = search rules in
    inr (answer-foreign k (case_in c.args.job.now) (sym c.has_points.ensures ∙ pointed) (sym c.is_over.ensures ∙ other))

pub returns-clause-given : goal.returns-clause-given
returns-clause-given g c =
    let k : Fields = record { ops = g.EF.Field.ops; base = g.F.Field.ops; extension = g.EF.ExtensionField.extension; embedding = g.EF.Algebra.embedding } in
    let job = case_in c.args.job.now in
    let pointed : c.has_points.result ≡ true = search rules in
    let all : c.is_over.result ≡ true = search rules in
    subst (λ a. GivesTable g.F.Field.number g.EF.Field.number a c.audit_drawn.result)
    (ap (λ q. audited (answer_to q)) (c.in_ok-asked.ensures _ _) ∙ sym (answer-audited k job (sym c.has_points.ensures ∙ pointed) (sym c.is_over.ensures ∙ all)))
    c.audit_drawn.ensures.given

pub returns-clause-holds : goal.returns-clause-holds
returns-clause-holds g c =
    subst (λ t. IfOk c.audit_drawn.result (λ r. HoldsIfBuilt t (report_in g.F.Field.number g.EF.Field.number r).figures))
    (ap (λ q. q.case.task) (c.in_ok-asked.ensures (rules_of g.F.Field.ops.size (draws_in c.args.job.now.draws)) [])) c.audit_drawn.ensures.holds

pub returns-clause-certified : goal.returns-clause-certified
returns-clause-certified g c =
    subst (λ p. IfOk c.audit_drawn.result (λ r. CertifiesLuck g.EF.Field.ops p (report_in g.F.Field.number g.EF.Field.number r).figures))
    (ap (λ q. q.case.problem) (c.in_ok-asked.ensures (rules_of g.F.Field.ops.size (draws_in c.args.job.now.draws)) [])) c.audit_drawn.ensures.certified
