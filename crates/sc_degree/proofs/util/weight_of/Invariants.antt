use Rattle.sc_degree.proofs.LagrangeLaws.{IsApart}
use Rattle.sc_degree.proofs.util.weight_of.Given as goal

abbrev pub invariant-loop-other : goal.invariant-loop-other
invariant-loop-other g l = IsApart g.EF.Field.ops l.node l.other (g.EF.Field.number l.product)
