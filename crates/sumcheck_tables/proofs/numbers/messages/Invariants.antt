use Rattle.std.proofs.Common.{◌≡◌, map, take}
use Rattle.sc_transcript.specs.Data.{pair_of}
use Rattle.sumcheck_tables.specs.Views.{numbers_in}
use Rattle.sumcheck_tables.proofs.numbers.messages.Given as goal

abbrev pub invariant-loop-round : goal.invariant-loop-round
invariant-loop-round g l = map (pair_of g.F.Field.number) l.found.items ≡ map numbers_in (take l.round-index l.rounds)
