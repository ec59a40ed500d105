use Rattle.std.proofs.Common.{◌≡◌, ℕ, ◌^◌, length, ◌∙◌, ap, subst, arith}
use mathlib.Core.Path.{fun_ext}
use Rattle.sc_definitions.specs.Tables.{suffix, entries}
use Rattle.sc_table.specs.SplitEqs.{split_variables, split_weight}
use Rattle.sc_table.specs.Polys.{table_of}
use Rattle.sc_table.proofs.EntryLaws.{entry-embedded}
use Rattle.sc_partials.specs.Partials.{IsPartial}
use Rattle.sc_svo.specs.Points.{order_in, near_in, far_in, point_in}
use Rattle.sc_svo.proofs.PointParts.{length-joined, partial-suffix, partial-in, if_ok_both}
use Rattle.sc_svo_layout_tests.proofs.tests.svo.successors.compressed.Goals as goal

pub compress_prefix-requires : goal.compress_prefix-requires
compress_prefix-requires g c =
    let p = c.args.point.now in
    let parts = length-joined (order_in p) (near_in p) (far_in p) in
    (length (near_in p), c.as_slice.ensures.size ∙ ap (λ n. 2 ^ n) (omega (arith, parts, c.z_split.ensures.size, c.requires.arity)))

pub returns : goal.returns
returns g c =
    let p = c.args.point.now in
    let e = g.EF.Field in
    let h : ℕ → ℕ = g.EF.Algebra.embedding in
    let n = g.F.Field.number in
    let split = c.z_split.result.now in
    let rows = c.as_slice.result.now in
    let f = entries (λ (x : g.row.F.Denot). h (n x)) rows in
    let same : f ≡ (λ b. h (table_of n c.args.table.now b)) =
    fun_ext (λ b. entry-embedded h n rows b g.met.EF.Algebra.embeds.zero_kept ∙ ap (λ t. h (t b)) c.as_slice.ensures.numbers) in
    let whole = c.as_slice.ensures.size ∙ ap (λ k. 2 ^ k) (c.requires.arity ∙ length-joined (order_in p) (near_in p) (far_in p)) in
    if_ok_both c.compress_prefix.result _ _ _
    (λ q size rows_are. subst (λ t. IsPartial suffix e.ops e.number t (point_in p) (near_in p) q) same
    (subst (λ k. IsPartial k e.ops e.number f (point_in p) (near_in p) q) c.requires.order
    (partial-in (order_in p) suffix e.ops e.number f (near_in p) (far_in p) q c.requires.order
    (partial-suffix e.ops e.number f (split_weight e.number e.ops split) (near_in p) (far_in p) (length rows) (split_variables split) q whole size c.z_split.ensures.size c.z_split.ensures.weights rows_are))))
    c.compress_prefix.ensures.size c.compress_prefix.ensures.rows
