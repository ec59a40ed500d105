use Rattle.serde_json.specs.View.{view}
use Rattle.sumcheck_openings.proofs.OpeningsJobLaws.{members-read, claims-misfit, same-error}
use Rattle.sumcheck_openings.proofs.reading.read_openings_members.Goals as goal

-- the claims are told, where what stands before them was read
pub returns-in_err-claims-clause-misfit : goal.returns-in_err-claims-clause-misfit
returns-in_err-claims-clause-misfit c = λ m is.
    claims-misfit c.args.field c.args.sizes (view c.args.value) _ _ _ _ c.in_ok-challenger.ensures.ok c.in_ok-bits.ensures.ok c.in_ok-tables.ensures.ok c.in_ok-variables.ensures.ok _
    (c.in_err-claims.ensures.misfit m (same-error c.from_residual-in_err-claims.result _ _ c.from_residual-in_err-claims.ensures.1 is))

pub returns-clause-job : goal.returns-clause-job
returns-clause-job c =
    members-read c.args.field c.args.sizes (view c.args.value) _ _ _ _ c.in_ok-challenger.ensures.ok c.in_ok-bits.ensures.ok c.in_ok-tables.ensures.ok c.in_ok-variables.ensures.ok _ _
    c.in_ok-claims.ensures.ok c.in_ok-mode.ensures.ok
