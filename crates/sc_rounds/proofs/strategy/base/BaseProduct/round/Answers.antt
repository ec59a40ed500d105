use Rattle.sc_rounds.proofs.BaseLaws.{base_round}
use Rattle.sc_rounds.proofs.strategy.base.BaseProduct.round.Goals as goal

pub returns-clause-round : goal.returns-clause-round
returns-clause-round g c =
    let puts = c.in_ok-r.ensures.puts in
    base_round puts.witness c.measure-message.ensures c.requires.variables puts.plays.sent puts.wire
