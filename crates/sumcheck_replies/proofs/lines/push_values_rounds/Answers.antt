use Rattle.std.proofs.Common.{◌≡◌, ◌++◌, ◌+◌, ◌<◌, length, map, take, sym, ◌∙◌, ap, append_assoc, string_bytes, arith}
use Rattle.std.specs.List.{slice_get}
use Rattle.sumcheck_replies.specs.Lines.{round_line, round_lines}
use Rattle.sumcheck_replies.proofs.LineLaws.{lines-more, lines-all}
use Rattle.sumcheck_replies.proofs.lines.push_values_rounds.Goals as goal

pub loop-i-preserved : goal.loop-i-preserved
loop-i-preserved g c =
    let number = g.EF.Field.number in
    let i = c.loop-i.i in
    let m = c.index-messages-i.result in
    let r = c.index-challenges-i.result in
    let start = string_bytes c.args.text.now in
    let ws = map g.F.Field.number c.args.witnesses.now in
    let done = round_lines 0 (map (λ values. map number values.items) (take i c.args.messages.now)) ws (map number (take i c.args.challenges.now)) in
    let more = round_line i (map number m.items) (slice_get ws i) (number r) in
    let low : i < length c.args.messages.now = omega (arith, c.loop-i-test.true, c.min-i-end.ensures) in
    let low' : i < length c.args.challenges.now = omega (arith, c.loop-i-test.true, c.min-i-end.ensures) in
    let line : round_line i (map number c.deref.result.now) c.number_at-witness.result c.index.result ≡ more =
    cc (c.deref.ensures.value, c.number_at-witness.ensures, c.index.ensures) in
    let lines : round_lines 0 (map (λ values. map number values.items) (take (i + 1) c.args.messages.now)) ws (map number (take (i + 1) c.args.challenges.now)) ≡ done ++ more =
    lines-more round_line (λ values. map number values.items) number ws c.args.messages.now c.args.challenges.now i m r low low' c.index-messages-i.is c.index-challenges-i.is in
    c.in_ok-push_values_round.ensures ∙ ap (λ t. string_bytes c.loop-i.text ++ t) line ∙ ap (λ t. t ++ more) c.loop-i.invariant
    ∙ append_assoc start done more ∙ ap (λ t. start ++ t) (sym lines)

pub returns : goal.returns
returns g c =
    let number = g.EF.Field.number in
    c.loop-i.invariant
    ∙ ap (λ t. string_bytes c.args.text.now ++ t)
    (lines-all round_line (λ values. map number values.items) number 0 c.loop-i.i (map g.F.Field.number c.args.witnesses.now) c.args.messages.now c.args.challenges.now
    (omega (arith, c.loop-i-test.false, c.min-i-end.ensures)))
