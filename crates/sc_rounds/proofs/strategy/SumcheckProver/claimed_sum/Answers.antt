use Rattle.sc_rounds.proofs.strategy.SumcheckProver.claimed_sum.Goals as goal

pub returns-clause-true_sum : goal.returns-clause-true_sum
returns-clause-true_sum g c = c.args.self.now.true_sum
