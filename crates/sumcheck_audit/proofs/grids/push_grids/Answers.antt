use Rattle.std.proofs.Common.{◌++◌, map, take, sym, ap, ◌∙◌, string_bytes}
use Rattle.std.specs.Prelude.{codes}
use Rattle.sc_svo.specs.Grids.{grid_shown}
use Rattle.sumcheck_replies.specs.Lines.{grid_line, grid_lines}
use Rattle.sumcheck_replies.proofs.GridLines.{grid_lines-more, pushed-both}
use Rattle.sumcheck_audit.proofs.grids.push_grids.Goals as goal

-- a grid more
pub loop-i-preserved : goal.loop-i-preserved
loop-i-preserved g c =
    let number = g.EF.Field.number in
    let rounds = c.as_slice-rounds.result.now in
    let i = c.loop-i.i in
    let grid = c.index-rounds-i.result in
    let start = string_bytes c.args.text.now in
    let text = string_bytes c.loop-i.text in
    let text' = string_bytes c.push_grid.new.text in
    pushed-both start (grid_lines 0 (map (grid_shown number) (take i rounds))) i (grid_shown number grid) text text' _ c.loop-i.invariant
    (c.in_ok-push_grid.ensures ∙ ap (λ xs. text ++ grid_line i (codes "zero") (map number xs)) c.as_slice.ensures)
    (c.in_ok-push_grid-2.ensures ∙ ap (λ xs. text' ++ grid_line i (codes "infinity") (map number xs)) c.as_slice-in-loop-i.ensures)
    ∙ ap (λ t. start ++ t) (sym (grid_lines-more (grid_shown number) rounds i grid c.loop-i-test.true c.index-rounds-i.is))
