use Rattle.std.proofs.Common.{◌≡◌, map, take}
use Rattle.sc_transcript.specs.Data.{pair_of}
use Rattle.sumcheck_make.specs.Made.{sum_of}
use Rattle.sumcheck_make.proofs.made.sent_sum.Given as goal

abbrev pub invariant-loop-message : goal.invariant-loop-message
invariant-loop-message g l =
    g.EF.Field.number l.sum ≡ sum_of g.EF.Field.ops (map (sum_of g.EF.Field.ops) (map (pair_of g.EF.Field.number) (take l.message-index l.messages)))
