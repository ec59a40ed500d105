use Rattle.serde_json.specs.View.{view}
use Rattle.sumcheck_matmul.proofs.MatmulJobLaws.{members-read}
use Rattle.sumcheck_matmul.proofs.reading.read_matmul_members.Goals as goal

pub returns-clause-job : goal.returns-clause-job
returns-clause-job c =
    members-read c.args.field c.args.sizes (view c.args.value.now) _ _ _ _ _ _ c.in_ok-challenger.ensures.ok c.in_ok-bits.ensures.ok c.in_ok-left.ensures.ok c.in_ok-right.ensures.ok
    c.in_ok-claimed.ensures.ok c.in_ok-mode.ensures.ok
