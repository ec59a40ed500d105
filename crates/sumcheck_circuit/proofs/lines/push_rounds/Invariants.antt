use Rattle.std.proofs.Common.{◌≡◌, ◌++◌, map, take, string_bytes}
use Rattle.sumcheck_replies.specs.Lines.{lines_by}
use Rattle.sumcheck_circuit.specs.CircuitLines.{layer_round_line}
use Rattle.sumcheck_circuit.proofs.lines.push_rounds.Given as goal

abbrev pub invariant-loop-j : goal.invariant-loop-j
invariant-loop-j g l =
    let N = g.EF.Field.number in
    string_bytes l.text
    ≡ string_bytes l.fn.text
    ++ lines_by (layer_round_line l.layer) 0 (map (λ values. map N values.items) (take l.j l.proof.round_polys.items)) (map g.F.Field.number l.proof.pow_witnesses.items) (map N (take l.j l.challenges))
