use Rattle.std.proofs.Common.{◌≡◌, ◌+◌, ◌-◌, ◌*◌, ◌<◌, length, take, drop, ◌∙◌, ap, arith, ◌++◌, length-append}
use Rattle.sc_definitions.specs.Tables.{entries}
use Rattle.sc_matmul.specs.MatrixViews.{matrix_in}
use Rattle.sc_matmul.proofs.EntryLaws.{rows-more, rows-all, row-is, row-product}
use Rattle.sc_matmul.proofs.product.product_of.Goals as goal

-- one row more
pub loop-i-preserved : goal.loop-i-preserved
loop-i-preserved g c =
    let N = g.F.Field.number in
    let o = g.F.Field.ops in
    let left = c.args.left.now in
    let right = c.args.right.now in
    let i = c.loop-i.i in
    let n = c.cols-inner.result in
    let m = c.cols-cols.result in
    let before = c.loop-i.product.items in
    let sums = c.in_ok-sums.sums.items in
    let xs = c.as_slice-lefts.result.now in
    let row = take ((i + 1) * n - i * n) (drop (i * n) xs) in
    let low : i < left.rows = omega (arith, c.loop-i-test.true, c.rows-i-end.ensures) in
    let wide : length sums ≡ m = c.in_ok-sums.ensures.count in
    let items = c.in_ok-extend_from_slice.ensures.items ∙ ap (λ l. before ++ l) c.deref.ensures.value in
    let more : i * m + m ≡ (i + 1) * m = omega arith in
    record {
      count = ap length items ∙ length-append before sums ∙ ap (λ k. k + length sums) c.loop-i.invariant.count ∙ ap (λ k. i * m + k) wide ∙ more;
      entries = λ e inside. ap (λ l. entries N l e) items
          ∙ rows-more N o (matrix_in N left) (matrix_in N right) i m before sums c.loop-i.invariant.count wide c.loop-i.invariant.entries
          (λ k below. row-product N o left right i m k _ row c.as_slice-rights.result.now low (row-is left i n xs c.cols-inner.ensures c.as_slice-lefts.ensures)
          c.as_slice-rights.ensures c.cols-cols.ensures (c.in_ok-sums.ensures.sums k below)) e inside;
    }

pub returns : goal.returns
returns g c =
    let N = g.F.Field.number in
    let at : c.loop-i.i ≡ c.args.left.now.rows = omega (arith, c.loop-i-test.false, c.loop-i.auto.i-end, c.rows-i-end.ensures) in
    rows-all N g.F.Field.ops (matrix_in N c.args.left.now) (matrix_in N c.args.right.now) c.loop-i.i c.cols-cols.result c.loop-i.product.items at c.cols-cols.ensures
    c.loop-i.invariant.count c.loop-i.invariant.entries
