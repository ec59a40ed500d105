use Rattle.std.proofs.Common.{◌≡◌, ℕ, length, ◌∙◌, ap, sym, subst}
use mathlib.Core.Path.{fun_ext}
use Rattle.std.proofs.lemmas.Result.{IfOk-weaker}
use Rattle.sc_definitions.specs.Tables.{prefix, entries}
use Rattle.sc_table.specs.Polys.{table_of}
use Rattle.sc_table.proofs.EntryLaws.{entry-embedded}
use Rattle.sc_partials.specs.NextPartials.{next_sums_of, AreNextPartials}
use Rattle.sc_partials.proofs.NextTables.{have-of}
use Rattle.sc_svo.specs.Points.{near_in, point_in}
use Rattle.sc_svo.proofs.point.SvoPoint.eval_next_prefix.Goals as goal

pub summed-requires : goal.summed-requires
summed-requires g c =
    let p = c.args.self.now in
    have-of g.EF.Field.number (length (near_in p)) _ c.in_ok-tables.tables c.in_ok-tables.ensures.tables

pub returns : goal.returns
returns g c =
    let p = c.args.self.now in
    let e = g.EF.Field in
    let h : ℕ → ℕ = g.EF.Algebra.embedding in
    let n = g.F.Field.number in
    let f = entries (λ (x : g.row.F.Denot). h (n x)) c.as_slice.result.now in
    let same : f ≡ (λ b. h (table_of n c.args.poly.now b)) =
    fun_ext (λ b. entry-embedded h n c.as_slice.result.now b g.met.EF.Algebra.embeds.zero_kept ∙ ap (λ t. h (t b)) c.as_slice.ensures.numbers) in
    let are = subst (λ k. AreNextPartials k e.ops e.number f (point_in p) (near_in p) c.in_ok-tables.tables) (sym c.requires.order) c.in_ok-tables.ensures in
    IfOk-weaker c.summed.result _ _
    (λ r is. is ∙ ap (λ k. next_sums_of k e.ops f (point_in p) (length (near_in p))) c.requires.order
    ∙ ap (λ t. next_sums_of prefix e.ops t (point_in p) (length (near_in p))) same) (c.summed.ensures f are)
