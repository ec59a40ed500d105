use Rattle.std.proofs.Common.{◌≡◌, ◌++◌, [], ◌∷◌, ◌+◌, ◌<◌, length, map, take, sym, ◌∙◌, ap, append_assoc, string_bytes, arith}
use Rattle.std.proofs.lemmas.Result.{IfOk-from_err}
use Rattle.std.specs.List.{slice_get}
use Rattle.sc_transcript.specs.Data.{pair_of}
use Rattle.sumcheck_replies.specs.Lines.{round_line, round_lines}
use Rattle.sumcheck_replies.proofs.LineLaws.{lines-more, lines-all}
use Rattle.sumcheck_replies.proofs.lines.push_rounds.Goals as goal

pub loop-i-preserved : goal.loop-i-preserved
loop-i-preserved g c =
    let base = g.F.Field.number in
    let number = g.EF.Field.number in
    let i = c.loop-i.i in
    let m = c.index-messages-i.result in
    let r = c.index-challenges-i.result in
    let start = string_bytes c.args.text.now in
    let ws = map base c.args.witnesses.now in
    let done = round_lines 0 (map (pair_of number) (take i c.args.messages.now)) ws (map number (take i c.args.challenges.now)) in
    let more = round_line i (pair_of number m) (slice_get ws i) (number r) in
    let low : i < length c.args.messages.now = omega (arith, c.loop-i-test.true, c.min-i-end.ensures) in
    let low' : i < length c.args.challenges.now = omega (arith, c.loop-i-test.true, c.min-i-end.ensures) in
    let line : round_line i (c.index.result ∷ c.index-in-loop-i.result ∷ []) c.number_at.result c.index-challenge.result ≡ more =
    cc (c.index.ensures, c.index-in-loop-i.ensures, c.number_at.ensures, c.index-challenge.ensures) in
    let pushed : string_bytes c.push_round.new.text ≡ string_bytes c.loop-i.text ++ more =
    c.in_ok-push_round.ensures ∙ ap (λ t. string_bytes c.loop-i.text ++ t) line in
    let before : string_bytes c.push_round.new.text ≡ (start ++ done) ++ more = pushed ∙ ap (λ t. t ++ more) c.loop-i.invariant in
    let lines : round_lines 0 (map (pair_of number) (take (i + 1) c.args.messages.now)) ws (map number (take (i + 1) c.args.challenges.now)) ≡ done ++ more =
    lines-more round_line (pair_of number) number ws c.args.messages.now c.args.challenges.now i m r low low' c.index-messages-i.is c.index-challenges-i.is in
    before ∙ append_assoc start done more ∙ ap (λ t. start ++ t) (sym lines)

pub returns : goal.returns
returns g c =
    let base = g.F.Field.number in
    let number = g.EF.Field.number in
    c.loop-i.invariant
    ∙ ap (λ t. string_bytes c.args.text.now ++ t)
    (lines-all round_line (pair_of number) number 0 c.loop-i.i (map base c.args.witnesses.now) c.args.messages.now c.args.challenges.now (omega (arith, c.loop-i-test.false, c.min-i-end.ensures)))

-- a refusal tells nothing of an answer
pub returns-in_err-push_round : goal.returns-in_err-push_round
returns-in_err-push_round g c = IfOk-from_err c.from_residual.result _ c.from_residual.ensures.0
