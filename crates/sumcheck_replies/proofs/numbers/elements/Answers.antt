use Rattle.std.proofs.Common.{◌∙◌, arith}
use Rattle.std.proofs.lemmas.Grind.{common_steps}
use Rattle.std.proofs.lemmas.Result.{IfOk-from_err}
use Rattle.sumcheck_replies.proofs.NumberLaws.{pushed_number}
use Rattle.sumcheck_replies.proofs.numbers.elements.Goals as goal

pub loop-n-preserved : goal.loop-n-preserved
loop-n-preserved g c = record {
  values = pushed_number g.F.Field.number c.args.numbers.now c.loop-n.n-index (omega arith) c.loop-n.found.items _ c.element.result c.loop-n.invariant.values c.push_reserved.ensures.items c.element.ensures;
  count = grind (arith, common_steps);
  room = c.push_reserved.ensures.capacity ∙ c.loop-n.invariant.room;
}

-- a refusal tells nothing of an answer
pub returns-in_err-found : goal.returns-in_err-found
returns-in_err-found g c = IfOk-from_err c.from_residual.result _ c.from_residual.ensures.0
