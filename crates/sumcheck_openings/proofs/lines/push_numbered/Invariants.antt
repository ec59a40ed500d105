use Rattle.std.proofs.Common.{◌≡◌, ◌++◌, map, take, string_bytes}
use Rattle.sumcheck_openings.specs.OpeningsLines.{numbered_lines}
use Rattle.sumcheck_openings.proofs.lines.push_numbered.Given as goal

abbrev pub invariant-loop-i : goal.invariant-loop-i
invariant-loop-i g l = string_bytes l.text ≡ string_bytes l.fn.text ++ numbered_lines l.name 0 (map g.EF.Field.number (take l.i l.values))
