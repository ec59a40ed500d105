use Rattle.std.proofs.Common.{◌≡◌, ℕ, length, ◌∙◌, ap}
use mathlib.Core.Path.{fun_ext}
use Rattle.std.proofs.lemmas.Result.{IfOk-weaker}
use Rattle.sc_definitions.specs.Tables.{entries}
use Rattle.sc_table.specs.Polys.{table_of}
use Rattle.sc_table.proofs.EntryLaws.{entry-embedded}
use Rattle.sc_partials.specs.Partials.{partial_sums_of}
use Rattle.sc_svo.specs.Points.{order_in, near_in, point_in}
use Rattle.sc_svo.proofs.point.SvoPoint.eval.Goals as goal

pub returns : goal.returns
returns g c =
    let p = c.args.self.now in
    let h : ℕ → ℕ = g.EF.Algebra.embedding in
    let n = g.F.Field.number in
    let same : entries (λ (x : g.row.F.Denot). h (n x)) c.as_slice.result.now ≡ (λ b. h (table_of n c.args.poly.now b)) =
    fun_ext (λ b. entry-embedded h n c.as_slice.result.now b g.met.EF.Algebra.embeds.zero_kept ∙ ap (λ f. h (f b)) c.as_slice.ensures.numbers) in
    IfOk-weaker c.eval_slice.result _ _
    (λ r is. is ∙ ap (λ f. partial_sums_of (order_in p) g.EF.Field.ops f (point_in p) (length (near_in p))) same) c.eval_slice.ensures
