use Rattle.std.proofs.Common.{ap, ◌∙◌, refl}
use Rattle.sumcheck_members.specs.Statements.{all_claims}
use Rattle.sumcheck_replies.specs.Fields.{Fields}
use Rattle.sumcheck_veil.proofs.AskedLaws.{asked-same}
use Rattle.sumcheck_veil.proofs.asked.asked_job.Goals as goal

pub returns-clause-asks : goal.returns-clause-asks
returns-clause-asks g c = λ party.
    let k : Fields = record { ops = g.EF.Field.ops; base = g.F.Field.ops; extension = g.EF.ExtensionField.extension; embedding = g.EF.Algebra.embedding } in
    asked-same k g.F.Field.number _ c.args.job.now party.rules party.history (c.in_ok-elements.ensures ∙ c.as_slice.ensures) refl c.in_ok-constraint_of.ensures.states.1
    (c.in_ok-constraint_of.ensures.states.0 ∙ ap (all_claims g.EF.Algebra.embedding) c.as_slice-2.ensures)
    (c.in_ok-constraint_of.ensures.batched.0 ∙ c.element-batching.ensures) c.in_ok-constraint_of.ensures.batched.1 c.in_ok-masks.ensures.veils c.element.ensures
