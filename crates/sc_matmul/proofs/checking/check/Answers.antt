use Rattle.sc_matmul.proofs.SideLaws.{fit-by}
use Rattle.sc_matmul.proofs.checking.check.Goals as goal

pub product_of-requires-clause-few : goal.product_of-requires-clause-few
product_of-requires-clause-few g c = (fit-by c.args.fitting.now).inner_most

pub product_of-requires-clause-rows : goal.product_of-requires-clause-rows
product_of-requires-clause-rows g c = (fit-by c.args.fitting.now).rows_most

pub product_of-requires-clause-cols : goal.product_of-requires-clause-cols
product_of-requires-clause-cols g c = (fit-by c.args.fitting.now).cols_most
