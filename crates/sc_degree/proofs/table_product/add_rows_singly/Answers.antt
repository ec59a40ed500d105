use Rattle.std.proofs.Common.{◌≡◌, ℕ, ◌+◌, ◌<◌, length, map, set, subst, ◌∙◌, ap, arith}
use Rattle.sc_definitions.specs.Ring.{plus}
use Rattle.sc_definitions.specs.Tables.{sum_below, entries}
use Rattle.sc_definitions.proofs.LoopLaws.{entry-read}
use Rattle.sc_table.specs.Polys.{table_of}
use Rattle.sc_table.specs.Blocks.{HasWritten}
use Rattle.sc_table.proofs.FoldLaws.{written-none, written-more}
use Rattle.sc_degree.specs.Nodes.{node_of}
use Rattle.sc_degree.specs.Lines.{lines_at}
use Rattle.sc_degree.proofs.table_product.add_rows_singly.Goals as goal

pub loop-index-init : goal.loop-index-init
loop-index-init g c = written-none g.EF.Field.number _ 0 c.args.values.now

pub loop-index-preserved : goal.loop-index-preserved
loop-index-preserved g c =
    let e = g.EF.Field in
    let fs = map (table_of e.number) c.args.tables.now in
    let half = c.args.half in
    let i = c.loop-index.index in
    let old = c.args.values.now in
    let new = c.loop-index.values in
    let sum : ℕ → ℕ = λ x. sum_below e.ops half (λ b. lines_at e.ops fs b (half + b) x) in
    let table : ℕ → ℕ = λ k. plus e.ops (entries e.number old k) (sum (node_of k)) in
    let inside : i < length new = omega (arith, c.loop-index-test.true, c.loop-index.auto.values) in
    let at : 0 + i ≡ i = omega arith in
    let back : i ≡ 0 + i = omega arith in
    let row = entry-read e.number new i c.index-values-index.result inside c.index-values-index.is in
    let same = c.loop-index.invariant.behind i (omega arith) in
    let gained : e.number c.sum_singly-gained.result ≡ sum (node_of i) = c.sum_singly-gained.ensures ∙ ap sum c.transmitted_node-node.ensures in
    subst (λ k. HasWritten e.number table 0 (i + 1) old (set new k c.add.result)) at
    (written-more e.number table 0 i old new c.add.result (omega (arith, inside)) c.loop-index.invariant
    (subst (λ k. e.number c.add.result ≡ table k) back (cc (c.add.ensures, row, same, gained))))

pub returns : goal.returns
returns g c = λ k low. c.loop-index.invariant.written k (omega arith) (omega (arith, low, c.loop-index-test.false))
