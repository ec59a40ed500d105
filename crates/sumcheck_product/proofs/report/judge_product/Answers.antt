use Rattle.sumcheck_product.proofs.ProductPromises.{product-promised}
use Rattle.sumcheck_product.proofs.report.judge_product.Goals as goal

pub answer_named-requires-clause-challenger : goal.answer_named-requires-clause-challenger
answer_named-requires-clause-challenger c = c.requires.challenger

pub returns-clause-promised : goal.returns-clause-promised
returns-clause-promised c = product-promised c.args.job c.requires
