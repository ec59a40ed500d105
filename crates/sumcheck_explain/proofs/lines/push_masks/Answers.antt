use Rattle.std.proofs.Common.{◌++◌, take, sym, ap, ◌∙◌, append_assoc, map, string_bytes, arith}
use Rattle.std.proofs.lemmas.List.{take_all}
use Rattle.sc_commitments.specs.Matrices.{numbers_in, lists_in}
use Rattle.sumcheck_explain.specs.Explains.{mask_line, mask_lines}
use Rattle.sumcheck_explain.proofs.MaskLines.{mask_lines-more}
use Rattle.sumcheck_explain.proofs.lines.push_masks.Goals as goal

-- the line of one mask more
pub loop-i-preserved : goal.loop-i-preserved
loop-i-preserved g c =
    let number = g.EF.Field.number in
    let i = c.loop-i.i in
    let m = c.index-masks-i.result in
    let start = string_bytes c.args.text.now in
    let before = mask_lines 0 (lists_in number (take i c.args.masks.now)) in
    let line = mask_line i (numbers_in number m) in
    c.in_ok-push_mask.ensures ∙ ap (λ xs. string_bytes c.loop-i.text ++ mask_line i (map number xs)) c.deref.ensures.value
    ∙ ap (λ t. t ++ line) c.loop-i.invariant ∙ append_assoc start before line
    ∙ ap (λ t. start ++ t) (sym (mask_lines-more (numbers_in number) c.args.masks.now i m (omega (arith, c.loop-i-test.true)) c.index-masks-i.is))

pub returns : goal.returns
returns g c =
    c.loop-i.invariant
    ∙ ap (λ vs. string_bytes c.args.text.now ++ mask_lines 0 (lists_in g.EF.Field.number vs)) (take_all c.loop-i.i c.args.masks.now (omega (arith, c.loop-i-test.false)))
