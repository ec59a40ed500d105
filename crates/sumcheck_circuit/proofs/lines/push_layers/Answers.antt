use Rattle.std.proofs.Common.{◌≡◌, ◌++◌, ◌<◌, length, map, take, sym, ◌∙◌, ap, append_assoc, string_bytes, arith}
use Rattle.sc_circuit.specs.Runs.{layer_in}
use Rattle.sumcheck_replies.specs.Lines.{layer_name, lines_by}
use Rattle.sumcheck_circuit.specs.CircuitLines.{layer_round_line, layers_lines, merge_part}
use Rattle.sumcheck_circuit.proofs.LayerLines.{layers-more, layers-all}
use Rattle.sumcheck_circuit.proofs.lines.push_layers.Goals as goal

pub loop-i-preserved : goal.loop-i-preserved
loop-i-preserved g c =
    let number = g.EF.Field.number in
    let given = layer_in g.F.Field.number number in
    let i = c.loop-i.i in
    let l = c.index-layers-i.result in
    let rs = c.index-challenges-i.result in
    let m = c.index-merges-i.result in
    let start = string_bytes c.args.text.now in
    let done = layers_lines 0 (map given (take i c.args.layers.now)) (map (λ rs. map number rs) (take i c.args.challenges.now)) (map number (take i c.args.merges.now)) in
    let rounds = lines_by (layer_round_line i) 0 (given l).wire.messages (given l).wire.witnesses (map number rs) in
    let name = layer_name i in
    let end = merge_part (number l.left) (number l.right) (number m) in
    let low : i < length c.args.layers.now = omega (arith, c.loop-i-test.true, c.min-count.ensures, c.min.ensures) in
    let low' : i < length c.args.challenges.now = omega (arith, c.loop-i-test.true, c.min-count.ensures, c.min.ensures) in
    let low'' : i < length c.args.merges.now = omega (arith, c.loop-i-test.true, c.min-count.ensures, c.min.ensures) in
    let same : merge_part c.index.result c.index-in-loop-i.result c.index-in-loop-i-2.result ≡ end = cc (c.index.ensures, c.index-in-loop-i.ensures, c.index-in-loop-i-2.ensures) in
    let drawn : lines_by (layer_round_line i) 0 (given l).wire.messages (given l).wire.witnesses (map number c.as_slice.result.now) ≡ rounds =
    ap (λ vs. lines_by (layer_round_line i) 0 (given l).wire.messages (given l).wire.witnesses (map number vs)) c.as_slice.ensures in
    let pushed = c.in_ok-push_rounds.ensures ∙ ap (λ t. string_bytes c.loop-i.text ++ t) drawn ∙ ap (λ t. t ++ rounds) c.loop-i.invariant in
    c.in_ok-push_merge.ensures ∙ ap (λ t. string_bytes c.push_layer.new.text ++ t) same ∙ ap (λ t. t ++ end) (c.in_ok-push_layer.ensures ∙ ap (λ t. t ++ name) pushed)
    ∙ append_assoc ((start ++ done) ++ rounds) name end ∙ append_assoc (start ++ done) rounds (name ++ end) ∙ append_assoc start done (rounds ++ (name ++ end))
    ∙ ap (λ t. start ++ t)
    (sym (layers-more given (λ rs. map number rs) number c.args.layers.now c.args.challenges.now c.args.merges.now i l rs m low low' low'' c.index-layers-i.is c.index-challenges-i.is c.index-merges-i.is))

pub returns : goal.returns
returns g c =
    let number = g.EF.Field.number in
    c.loop-i.invariant
    ∙ ap (λ t. string_bytes c.args.text.now ++ t)
    (layers-all (layer_in g.F.Field.number number) (λ rs. map number rs) number 0 c.loop-i.i c.args.layers.now c.args.challenges.now c.args.merges.now
    (omega (arith, c.loop-i-test.false, c.min-count.ensures, c.min.ensures)))
