use Rattle.std.proofs.Common.{◌≡◌, ◌++◌, map, take, string_bytes}
use Rattle.sumcheck_replies.specs.Lines.{spaced}
use Rattle.sumcheck_replies.proofs.lines.push_values.Given as goal

abbrev pub invariant-loop-value : goal.invariant-loop-value
invariant-loop-value g l = string_bytes l.text ≡ string_bytes l.fn.text ++ spaced (map g.EF.Field.number (take l.value-index l.values))
