use Rattle.std.proofs.Common.{◌++◌, ◌<◌, length, map, take, sym, ap, ◌∙◌, append_assoc, arith, string_bytes}
use Rattle.std.proofs.lemmas.List.{append-nil, take_all}
use Rattle.sumcheck_openings.specs.OpeningsLines.{numbered_line, numbered_lines}
use Rattle.sumcheck_openings.proofs.NumberedLines.{numbered-more}
use Rattle.sumcheck_openings.proofs.lines.push_numbered.Goals as goal

pub loop-i-preserved : goal.loop-i-preserved
loop-i-preserved g c =
    let number = g.EF.Field.number in
    let name = c.args.name.now in
    let values = c.args.values.now in
    let i = c.loop-i.i in
    let x = c.index-values-i.result in
    let start = string_bytes c.args.text.now in
    let before = numbered_lines name 0 (map number (take i values)) in
    c.in_ok-push_numbered_line.ensures ∙ ap (λ n. string_bytes c.loop-i.text ++ numbered_line name i n) c.index.ensures
    ∙ ap (λ t. t ++ numbered_line name i (number x)) c.loop-i.invariant ∙ append_assoc start before (numbered_line name i (number x))
    ∙ ap (λ t. start ++ t) (sym (numbered-more name number values i x (omega arith) c.index-values-i.is))

pub returns : goal.returns
returns g c =
    let number = g.EF.Field.number in
    let start = string_bytes c.args.text.now in
    c.loop-i.invariant ∙ ap (λ xs. start ++ numbered_lines c.args.name.now 0 (map number xs)) (take_all c.loop-i.i c.args.values.now (omega arith))
