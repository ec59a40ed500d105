use Rattle.std.proofs.Common.{◌≡◌, ◌++◌, map, take, string_bytes}
use Rattle.sumcheck_replies.specs.Lines.{round_lines}
use Rattle.sumcheck_replies.proofs.lines.push_values_rounds.Given as goal

abbrev pub invariant-loop-i : goal.invariant-loop-i
invariant-loop-i g l =
    let base = g.F.Field.number in
    let number = g.EF.Field.number in
    string_bytes l.text ≡ string_bytes l.fn.text ++ round_lines 0 (map (λ values. map number values.items) (take l.i l.messages)) (map base l.witnesses) (map number (take l.i l.challenges))
