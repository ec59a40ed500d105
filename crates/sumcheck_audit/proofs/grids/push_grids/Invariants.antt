use Rattle.std.proofs.Common.{◌≡◌, ◌++◌, map, take, string_bytes}
use Rattle.sc_svo.specs.Grids.{grid_shown}
use Rattle.sumcheck_replies.specs.Lines.{grid_lines}
use Rattle.sumcheck_audit.proofs.grids.push_grids.Given as goal

abbrev pub invariant-loop-i : goal.invariant-loop-i
invariant-loop-i g l = string_bytes l.text ≡ string_bytes l.fn.text ++ grid_lines 0 (map (grid_shown g.EF.Field.number) (take l.i l.rounds))
