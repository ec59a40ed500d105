use Rattle.std.proofs.Common.{refl}
use Rattle.sc_definitions.proofs.PairMoves.{dot_sum}
use Rattle.sc_rounds.proofs.product_polynomial.ProductPolynomial.dot_with.Goals as goal

pub returns : goal.returns
returns g c = dot_sum g.EF.Field.ops _ c.dot.ensures c.as_slice.ensures.size c.as_slice.ensures.numbers refl
