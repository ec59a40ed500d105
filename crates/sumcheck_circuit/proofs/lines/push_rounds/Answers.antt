use Rattle.std.proofs.Common.{◌≡◌, ◌++◌, ◌<◌, length, map, take, sym, ◌∙◌, ap, append_assoc, string_bytes, arith}
use Rattle.std.specs.List.{slice_get}
use Rattle.sumcheck_replies.specs.Lines.{layer_name, round_line, lines_by}
use Rattle.sumcheck_replies.proofs.LineLaws.{lines-more, lines-all}
use Rattle.sumcheck_circuit.specs.CircuitLines.{layer_round_line}
use Rattle.sumcheck_circuit.proofs.lines.push_rounds.Goals as goal

pub loop-j-preserved : goal.loop-j-preserved
loop-j-preserved g c =
    let number = g.EF.Field.number in
    let j = c.loop-j.j in
    let layer = c.args.layer in
    let m = c.index.result.now in
    let r = c.index-challenges-j.result in
    let start = string_bytes c.args.text.now in
    let ws = map g.F.Field.number c.args.proof.now.pow_witnesses.items in
    let polys = c.args.proof.now.round_polys.items in
    let line = round_line j (map number m.items) (slice_get ws j) (number r) in
    let done = lines_by (layer_round_line layer) 0 (map (λ values. map number values.items) (take j polys)) ws (map number (take j c.args.challenges.now)) in
    let low : j < length polys = omega (arith, c.loop-j-test.true, c.min-j-end.ensures, c.len.ensures) in
    let low' : j < length c.args.challenges.now = omega (arith, c.loop-j-test.true, c.min-j-end.ensures) in
    let same : round_line j (map number c.deref-in-loop-j.result.now) c.number_at-witness.result c.index-in-loop-j.result ≡ line =
    cc (c.deref-in-loop-j.ensures.value, c.deref.ensures.value, c.number_at-witness.ensures, c.index-in-loop-j.ensures) in
    let lines = lines-more (layer_round_line layer) (λ values. map number values.items) number ws polys c.args.challenges.now j m r low low' c.index.ensures c.index-challenges-j.is in
    c.in_ok-push_values_round.ensures ∙ ap (λ t. string_bytes c.push_layer.new.text ++ t) same
    ∙ ap (λ t. t ++ line) (c.in_ok-push_layer.ensures ∙ ap (λ t. t ++ layer_name layer) c.loop-j.invariant)
    ∙ append_assoc (start ++ done) (layer_name layer) line ∙ append_assoc start done (layer_name layer ++ line)
    ∙ ap (λ t. start ++ t) (sym lines)

pub returns : goal.returns
returns g c =
    let number = g.EF.Field.number in
    c.loop-j.invariant
    ∙ ap (λ t. string_bytes c.args.text.now ++ t)
    (lines-all (layer_round_line c.args.layer) (λ values. map number values.items) number 0 c.loop-j.j (map g.F.Field.number c.args.proof.now.pow_witnesses.items) c.args.proof.now.round_polys.items
    c.args.challenges.now (omega (arith, c.loop-j-test.false, c.min-j-end.ensures, c.len.ensures)))
