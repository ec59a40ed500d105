use Rattle.sc_definitions.proofs.PairMoves.{dot_sum}
use Rattle.sc_field.specs.Products.{products}
use Rattle.sc_merged.proofs.weighted.WeightedPoly.sum.Goals as goal

pub returns : goal.returns
unfolding products
returns g c = dot_sum g.EF.Field.ops _ c.dot_slices.ensures c.as_slice.ensures.size c.as_slice.ensures.numbers c.as_slice-2.ensures.numbers
