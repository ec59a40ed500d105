use Rattle.sc_transcript.proofs.BatchLaws.{moved-honest}
use Rattle.sc_rounds.proofs.product_polynomial.ProductPolynomial.round.Goals as goal

pub returns-clause-round : goal.returns-clause-round
returns-clause-round g c = moved-honest _ _ g.met.EF.Field.is_field.ring c.args.self.now.offered _ _ _ _ c.round_in.ensures.round
