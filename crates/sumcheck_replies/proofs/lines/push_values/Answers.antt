use Rattle.std.proofs.Common.{◌++◌, [], ◌∷◌, map, take, sym, ap, ◌∙◌, append_assoc, arith, string_bytes}
use Rattle.std.proofs.lemmas.List.{append-nil, take_all}
use Rattle.sumcheck_replies.specs.Lines.{spaced}
use Rattle.sumcheck_replies.proofs.GridLines.{spaced-none, spaced-more}
use Rattle.sumcheck_replies.proofs.lines.push_values.Goals as goal

pub loop-value-init : goal.loop-value-init
loop-value-init g c =
    let start = string_bytes c.args.text.now in
    sym (ap (λ t. start ++ t) spaced-none ∙ append-nil start)

-- a number more
pub loop-value-preserved : goal.loop-value-preserved
loop-value-preserved g c =
    let number = g.EF.Field.number in
    let values = c.args.values.now in
    let k = c.loop-value.value-index in
    let x = c.value-item.result in
    let start = string_bytes c.args.text.now in
    let before = spaced (map number (take k values)) in
    c.in_ok-push_spaced.ensures ∙ ap (λ n. string_bytes c.loop-value.text ++ spaced (n ∷ [])) c.index.ensures
    ∙ ap (λ t. t ++ spaced (number x ∷ [])) c.loop-value.invariant ∙ append_assoc start before (spaced (number x ∷ []))
    ∙ ap (λ t. start ++ t) (sym (spaced-more number values k x (omega arith) c.value-item.is))

pub returns : goal.returns
returns g c =
    let number = g.EF.Field.number in
    let start = string_bytes c.args.text.now in
    c.loop-value.invariant ∙ ap (λ xs. start ++ spaced (map number xs)) (take_all c.loop-value.value-index c.args.values.now (omega arith))
