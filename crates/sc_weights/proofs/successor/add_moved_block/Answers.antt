use Rattle.std.proofs.Common.{◌≡◌, ◌+◌, ◌-◌, ◌++◌, length, take, drop, ◌∙◌, ap, arith}
use Rattle.std.proofs.lemmas.List.{length-take-le, length-drop, length-append}
use Rattle.sc_definitions.specs.Ring.{plus, times}
use Rattle.sc_definitions.specs.Tables.{entries}
use Rattle.sc_table.proofs.EntryLaws.{entry-take}
use Rattle.sc_weights.proofs.Halves.{end-given}
use Rattle.sc_weights.proofs.NextSteps.{parts-added}
use Rattle.sc_weights.proofs.successor.add_moved_block.Goals as goal

pub returns : goal.returns
returns g c =
    let f = g.EF.Field in
    let rows = c.args.rows.now in
    let weights = c.args.weights.now in
    let n = length weights in
    let s = c.args.stride in
    let there = n - s in
    let scale = f.number c.args.scale in
    let before = f.number c.args.before in
    let w = entries f.number weights in
    let low = c.add_scaled.new.rows in
    let whole = low ++ drop s rows in
    let lows : length low ≡ s = c.add_scaled.auto.rows ∙ length-take-le s rows (omega (arith, c.requires.same, c.requires.stride)) in
    let size : length whole ≡ n = length-append low (drop s rows) ∙ omega (arith, lows, length-drop s rows, c.requires.same, c.requires.stride) in
    let rest : length (take (length whole - s) (drop s whole)) ≡ there = length-take-le (length whole - s) (drop s whole) (omega (arith, length-drop s whole)) ∙ ap (λ k. k - s) size in
    parts-added f.ops f.number rows low c.add_scaled-2.new.rows _ s (omega (arith, c.requires.same, c.requires.stride)) c.add_scaled.auto.rows c.add_scaled-2.auto.rows
    (λ j. times f.ops before (w (there + j))) (λ k. times f.ops scale (w k))
    (λ b below. c.add_scaled.ensures b (omega (arith, below, lows, c.add_scaled.auto.rows))
    ∙ ap (λ k. plus f.ops (entries f.number (take s rows) b) (times f.ops before k)) (end-given f.number weights there (n - there) b (omega (arith, below, c.requires.stride))))
    (λ a below. c.add_scaled-2.ensures a (omega (arith, below, rest, c.requires.same))
    ∙ ap (λ k. plus f.ops (entries f.number (take (length whole - s) (drop s whole)) a) (times f.ops scale k)) (entry-take f.number weights there a (omega (arith, below, c.requires.same))))
