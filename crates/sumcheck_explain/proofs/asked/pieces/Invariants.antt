use Rattle.std.proofs.Common.{◌≡◌, take}
use Rattle.sc_zk_views.specs.Views.{pieces_in}
use Rattle.sumcheck_explain.specs.Explains.{pieces_given}
use Rattle.sumcheck_explain.proofs.asked.pieces.Given as goal

abbrev pub invariant-loop-pair : goal.invariant-loop-pair
invariant-loop-pair g l = pieces_in g.EF.Field.number l.found.items ≡ pieces_given (take l.pair-index l.pairs)
