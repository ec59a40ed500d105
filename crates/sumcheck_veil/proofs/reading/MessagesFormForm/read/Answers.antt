use Rattle.std.proofs.lemmas.Result.{IfOk-weaker}
use Rattle.sumcheck_veil.proofs.VeilJobLaws.{messages-kept}
use Rattle.sumcheck_veil.proofs.reading.MessagesFormForm.read.Goals as goal

pub returns-clause-fits : goal.returns-clause-fits
returns-clause-fits c =
    IfOk-weaker c.of_one_length.result _ _ (λ x e. messages-kept c.args.self.now.sizes c.args.self.now.rounds c.in_ok-read.field-0 x e.1 c.in_ok-read.ensures.fits) c.of_one_length.ensures.ok
