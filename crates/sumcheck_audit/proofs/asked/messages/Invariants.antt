use Rattle.std.proofs.Common.{◌≡◌, map, take}
use Rattle.sc_transcript.specs.Data.{pair_of}
use Rattle.sumcheck_audit.specs.Report.{values_of}
use Rattle.sumcheck_audit.proofs.asked.messages.Given as goal

abbrev pub invariant-loop-pair : goal.invariant-loop-pair
invariant-loop-pair g l = map (pair_of g.F.Field.number) l.found.items ≡ map values_of (take l.pair-index l.pairs)
