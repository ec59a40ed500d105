use Rattle.std.proofs.Common.{ap, sym, ◌∙◌}
use Rattle.sc_openings.specs.OpeningsReports.{claim_fault}
use Rattle.sc_openings.proofs.ValueLaws.{told-claim}
use Rattle.sc_openings.proofs.building.check_claims.Goals as goal

-- every claim is true
pub returns-in-None : goal.returns-in-None
returns-in-None g c = λ q are.
    ap claim_fault (sym c.in-None.is ∙ told-claim are c.deref.ensures.value c.deref-2.ensures.value c.first_false.ensures)

-- a claim is false
pub returns-in-Some : goal.returns-in-Some
returns-in-Some g c = λ q are.
    ap claim_fault (sym c.in-Some.is ∙ told-claim are c.deref.ensures.value c.deref-2.ensures.value c.first_false.ensures)
