use Rattle.std.proofs.Common.{◌≡◌, length, ap, sym, subst, ◌∙◌}
use Rattle.sc_definitions.specs.Tables.{entries}
use Rattle.sc_definitions.specs.Statements.{true_value}
use Rattle.sc_svo.specs.Points.{point_in, near_in, order_in}
use Rattle.sc_layout.specs.Openings.{next_at}
use Rattle.sc_layout.specs.Kept.{HasNextSums}
use Rattle.sc_layout.proofs.TrueLaws.{next-value, claims-more, all-more}
use Rattle.sc_layout.proofs.prover.next_claims.Goals as goal

pub loop-column-preserved : goal.loop-column-preserved
loop-column-preserved g c =
    let e = g.EF.Field in
    let p = c.args.point.now in
    let zs = point_in p in
    let f = entries (λ (x : g.row.F.Denot). g.EF.Algebra.embedding (g.F.Field.number x)) c.args.rows.now in
    record {
      values = claims-more e.number (true_value e.ops (length zs) f (next_at zs)) c.loop-column.column-index c.loop-column.claims.items _ c.new.result
          (ap (λ v. e.number v.eval) c.new.ensures
          ∙ next-value e.ops g.met.EF.Field.is_field.ring (order_in p) f zs (length (near_in p)) _ (ap (λ s. s.value) c.in_ok-value.ensures))
          c.loop-column.invariant.values c.in_ok-push.ensures.items;
      columns = all-more (λ v. v.point ≡ 0) c.loop-column.claims.items _ c.new.result (ap (λ v. v.point) c.new.ensures ∙ c.requires.columns c.loop-column.column-index 0 c.loop-column-test.true)
          c.loop-column.invariant.columns c.in_ok-push.ensures.items;
      kept = all-more (HasNextSums e.ops f p) c.loop-column.claims.items _ c.new.result (subst (HasNextSums e.ops f p) (sym c.new.ensures) c.in_ok-value.ensures)
          c.loop-column.invariant.kept c.in_ok-push.ensures.items;
    }
