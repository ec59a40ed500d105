use Rattle.std.proofs.Common.{◌≡◌, ◌<◌, ◌^◌, length, map, sym, ◌∙◌, ap, subst, arith}
use Rattle.sc_definitions.specs.Tables.{entries}
use Rattle.sc_definitions.proofs.Lengths.{pow-same}
use Rattle.sc_merge_definitions.specs.Matrices.{side_variables}
use Rattle.sc_matmul.specs.FittingClaims.{case_by}
use Rattle.sc_matmul.proofs.SideLaws.{fit-by}
use Rattle.sc_matmul.proofs.TableLaws.{left-sum}
use Rattle.sc_matmul.proofs.tables.left_table.Goals as goal

pub sum_rows-requires-clause-few : goal.sum_rows-requires-clause-few
sum_rows-requires-clause-few g c =
    let fit = fit-by c.args.fitting.now in
    omega (arith, ap length c.deref.ensures.value, c.in_ok-powers.ensures.count, c.rows.ensures, fit.rows_most)

pub new-requires : goal.new-requires
new-requires g c =
    let fitting = c.args.fitting.now in
    let fit = fit-by c.args.fitting.now in
    (side_variables fitting.left.now.cols, c.in_ok-sums.ensures.count ∙ c.cols-width.ensures ∙ fit.inner)

pub returns-clause-variables : goal.returns-clause-variables
returns-clause-variables g c =
    let fit = fit-by c.args.fitting.now in
    pow-same _ _ (sym c.new.ensures.size ∙ c.in_ok-sums.ensures.count ∙ c.cols-width.ensures ∙ fit.inner)

pub returns-clause-table : goal.returns-clause-table
returns-clause-table g c = λ party drawn x low.
    let fitting = c.args.fitting.now in
    let e = g.EF.Field in
    let q = case_by fitting party in
    let embeds = g.met.EF.Algebra.embeds in
    let width : 2 ^ c.new.result.variables ≡ c.cols-width.result = sym c.new.ensures.size ∙ c.in_ok-sums.ensures.count in
    ap (λ t. t x) c.new.ensures.table ∙ c.in_ok-sums.ensures.sums x (subst (λ k. x < k) width low)
    ∙ left-sum q g.met.EF.Field.is_field.ring embeds.zero_kept g.F.Field.number e.number c.as_slice.result.now c.deref.result.now c.rows.result c.cols-width.result
    (e.number c.exp_u64-row_power.result) c.cols.result (e.number c.args.point) x
    (ap (map g.F.Field.number) c.as_slice.ensures) (ap length c.deref.ensures.value ∙ c.in_ok-powers.ensures.count) c.rows.ensures c.cols-width.ensures
    c.exp_u64-row_power.ensures c.cols.ensures drawn
    (λ i below. ap (λ l. entries e.number l i) c.deref.ensures.value ∙ c.in_ok-powers.ensures.powers i below)
