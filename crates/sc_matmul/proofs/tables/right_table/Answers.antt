use Rattle.std.proofs.Common.{◌≡◌, ◌+◌, ◌-◌, ◌*◌, ◌<◌, length, map, take, drop, sym, ◌∙◌, ap, subst, refl, arith, length-append}
use Rattle.sc_definitions.specs.Ring.{times, power}
use Rattle.sc_definitions.specs.Tables.{entries, sum_below}
use Rattle.sc_definitions.proofs.Lengths.{pow-same}
use Rattle.sc_field.proofs.EntryLaws.{part-entry}
use Rattle.sc_merge_definitions.specs.Matrices.{side_variables}
use Rattle.sc_matmul.specs.FittingClaims.{case_by}
use Rattle.sc_matmul.proofs.SideLaws.{fit-by}
use Rattle.sc_matmul.proofs.EntryLaws.{row-is, row-size}
use Rattle.sc_matmul.proofs.TableLaws.{right-sum, dot-powers, entry-more}
use Rattle.sc_matmul.proofs.tables.right_table.Goals as goal

pub dot_base-requires-clause-same : goal.dot_base-requires-clause-same
dot_base-requires-clause-same g c =
    let m = c.args.fitting.now.right.now in
    let low : c.loop-x.x < m.rows = omega (arith, c.loop-x-test.true, c.rows-rows.ensures) in
    ap length (row-is m c.loop-x.x c.cols-cols.result c.as_slice-rights.result.now c.cols-cols.ensures c.as_slice-rights.ensures) ∙ row-size m c.loop-x.x low
    ∙ sym c.cols-cols.ensures ∙ sym c.in_ok-powers.ensures.count ∙ sym (ap length c.deref.ensures.value)

pub dot_base-requires-clause-few : goal.dot_base-requires-clause-few
dot_base-requires-clause-few g c =
    let fitting = c.args.fitting.now in
    let m = fitting.right.now in
    let fit = fit-by c.args.fitting.now in
    let low : c.loop-x.x < m.rows = omega (arith, c.loop-x-test.true, c.rows-rows.ensures) in
    let size = ap length (row-is m c.loop-x.x c.cols-cols.result c.as_slice-rights.result.now c.cols-cols.ensures c.as_slice-rights.ensures) ∙ row-size m c.loop-x.x low in
    omega (arith, size, fit.cols_most)

pub push_reserved-requires : goal.push_reserved-requires
push_reserved-requires g c = omega (arith, c.loop-x.invariant.made, c.loop-x.invariant.room, c.loop-x-test.true, c.loop-x.sums.ok.0)

pub loop-x-preserved : goal.loop-x-preserved
loop-x-preserved g c =
    let e = g.EF.Field in
    let o = e.ops in
    let image = λ (y : g.row.F.Denot). g.EF.Algebra.embedding (g.F.Field.number y) in
    let m = c.args.fitting.now.right.now in
    let x = c.loop-x.x in
    let n = c.cols-cols.result in
    let xs = c.as_slice-rights.result.now in
    let point = e.number c.args.point in
    let inv = c.loop-x.invariant in
    let low : x < m.rows = omega (arith, c.loop-x-test.true, c.rows-rows.ensures) in
    let row = take ((x + 1) * n - x * n) (drop (x * n) xs) in
    let size : length row ≡ n = ap length (row-is m x n xs c.cols-cols.ensures c.as_slice-rights.ensures) ∙ row-size m x low ∙ sym c.cols-cols.ensures in
    record {
      made = ap length c.push_reserved.ensures.items ∙ length-append c.loop-x.sums.items _ ∙ ap (λ k. k + 1) inv.made;
      room = omega (arith, c.push_reserved.ensures.capacity, inv.room);
      sums = λ k below. ap (λ l. entries e.number l k) c.push_reserved.ensures.items
          ∙ entry-more e.number (λ t. sum_below o n (λ j. times o (power o point j) (entries image xs (t * n + j)))) c.loop-x.sums.items c.dot_base.result x inv.made inv.sums
          (dot-powers o g.met.EF.Field.is_field.ring image e.number row xs c.deref.result.now (x * n) n point (e.number c.dot_base.result) size
          (λ j under. part-entry image xs ((x + 1) * n - x * n) (x * n) j (x * n + j) (omega (arith, under)) refl)
          (λ j under. ap (λ l. entries e.number l j) c.deref.ensures.value ∙ c.in_ok-powers.ensures.powers j under) c.dot_base.ensures) k below;
    }

pub new-requires : goal.new-requires
new-requires g c =
    let fitting = c.args.fitting.now in
    let fit = fit-by c.args.fitting.now in
    let made : length c.loop-x.sums.items ≡ fitting.right.now.rows = omega (arith, c.loop-x.invariant.made, c.loop-x.auto.x-end, c.loop-x-test.false, c.rows-rows.ensures) in
    (side_variables fitting.left.now.cols, made ∙ fit.inner_same ∙ fit.inner)

pub returns-clause-variables : goal.returns-clause-variables
returns-clause-variables g c =
    let fitting = c.args.fitting.now in
    let fit = fit-by c.args.fitting.now in
    let made : length c.loop-x.sums.items ≡ fitting.right.now.rows = omega (arith, c.loop-x.invariant.made, c.loop-x.auto.x-end, c.loop-x-test.false, c.rows-rows.ensures) in
    pow-same _ _ (sym c.new.ensures.size ∙ made ∙ fit.inner_same ∙ fit.inner)

pub returns-clause-table : goal.returns-clause-table
returns-clause-table g c = λ party drawn x low.
    let fitting = c.args.fitting.now in
    let e = g.EF.Field in
    let q = case_by fitting party in
    let inside : x < c.loop-x.x = subst (λ k. x < k) (sym c.new.ensures.size ∙ c.loop-x.invariant.made) low in
    ap (λ t. t x) c.new.ensures.table ∙ c.loop-x.invariant.sums x inside
    ∙ right-sum q g.met.EF.Algebra.embeds.zero_kept g.F.Field.number c.as_slice-rights.result.now c.cols-cols.result (e.number c.args.point) x
    (ap (map g.F.Field.number) c.as_slice-rights.ensures) c.cols-cols.ensures drawn
