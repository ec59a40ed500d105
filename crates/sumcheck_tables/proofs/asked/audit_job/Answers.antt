use Rattle.std.proofs.Common.{ap, ◌∙◌}
use Rattle.std.proofs.lemmas.List.{append-nil}
use Rattle.sc_statements.specs.EqStatements.{eq_statements}
use Rattle.sc_constraints.specs.Groups.{all_statements}
use Rattle.sumcheck_replies.specs.Fields.{Fields}
use Rattle.sumcheck_tables.specs.Views.{case_in}
use Rattle.sumcheck_tables.proofs.ClaimLaws.{asked-same}
use Rattle.sumcheck_tables.proofs.asked.audit_job.Goals as goal

pub returns : goal.returns
returns g c = λ R h.
    let N = g.EF.Field.number in
    let k : Fields = record { ops = g.EF.Field.ops; base = g.F.Field.ops; extension = g.EF.ExtensionField.extension; embedding = g.EF.Algebra.embedding } in
    let group = c.new.ensures.groups ∙ c.in_ok-groups.ensures.items in
    asked-same k g.F.Field.number _ (case_in c.args.job.now) R h c.in_ok-elements.ensures c.new.ensures.arity
    (ap (all_statements (λ x. g.EF.Algebra.embedding (g.F.Field.number x)) N) group ∙ append-nil (eq_statements N c.in_ok-claims.claims) ∙ c.in_ok-claims.ensures.claims)
    (c.new.ensures.challenge ∙ c.element-batching.ensures ∙ c.from.ensures) c.new.ensures.power c.in_ok-audit_mode.ensures
