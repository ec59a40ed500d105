use Rattle.std.proofs.lemmas.Result.{IfOk-weaker}
use Rattle.sumcheck_explain.proofs.ExplainJobLaws.{wires-kept}
use Rattle.sumcheck_explain.proofs.reading.WiresFormForm.read.Goals as goal

pub returns-clause-fits : goal.returns-clause-fits
returns-clause-fits c =
    IfOk-weaker c.of_one_width.result _ _ (λ x e. wires-kept c.args.self.now.size c.args.self.now.masks c.in_ok-read.field-0 x e.1 c.in_ok-read.ensures.fits) c.of_one_width.ensures.ok
