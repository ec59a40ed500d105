use Rattle.std.proofs.Common.{Some, sym, ap, ◌∙◌}
use Rattle.sumcheck_openings.specs.OpeningsReplies.{came_given}
use Rattle.sumcheck_openings.proofs.AskedLaws.{proof-same}
use Rattle.sumcheck_openings.proofs.asked.proof_came.Goals as goal

-- the rounds and the openings of a proof are those of its numbers
pub returns-in_ok-elements-in-Check : goal.returns-in_ok-elements-in-Check
returns-in_ok-elements-in-Check g c =
    ap (λ came. Some came)
    (proof-same g.F.Field.number g.EF.Field.number c.in_ok-proof_data-in-Check.field-0 _ c.in-Check.proof c.in_ok-proof_data-in-Check.ensures
    (c.in_ok-elements-in-Check.ensures ∙ c.as_slice.ensures))
    ∙ ap came_given (sym c.in-Check.is)
