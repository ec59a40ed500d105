use Rattle.std.proofs.Common.{◌≡◌, ◌++◌, take, string_bytes}
use Rattle.sc_commitments.specs.Matrices.{lists_in}
use Rattle.sumcheck_explain.specs.Explains.{mask_lines}
use Rattle.sumcheck_explain.proofs.lines.push_masks.Given as goal

abbrev pub invariant-loop-i : goal.invariant-loop-i
invariant-loop-i g l = string_bytes l.text ≡ string_bytes l.fn.text ++ mask_lines 0 (lists_in g.EF.Field.number (take l.i l.masks))
