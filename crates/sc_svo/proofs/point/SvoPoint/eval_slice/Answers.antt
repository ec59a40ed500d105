use Rattle.std.proofs.Common.{◌≡◌, length, map, refl, ◌∙◌, ap, sym, subst}
use Rattle.std.proofs.lemmas.List.{length-map}
use Rattle.sc_definitions.specs.Tables.{entries}
use Rattle.sc_partials.specs.Partials.{IsPartial}
use Rattle.sc_partials.proofs.PartialTables.{sums-are}
use Rattle.sc_svo.specs.Points.{order_in, near_in, point_in}
use Rattle.sc_svo.proofs.point.SvoPoint.eval_slice.Goals as goal

pub returns : goal.returns
returns g c =
    let p = c.args.self.now in
    let e = g.EF.Field in
    let f = entries (λ (x : g.row.F.Denot). g.EF.Algebra.embedding (g.F.Field.number x)) c.args.rows.now in
    let near : map e.number c.as_slice.result.now ≡ near_in p = ap (map e.number) c.as_slice.ensures in
    let is : IsPartial (order_in p) e.ops e.number f (point_in p) (map e.number c.as_slice.result.now) c.in_ok-table.table =
    subst (λ kept. IsPartial (order_in p) e.ops e.number f (point_in p) kept c.in_ok-table.table) (sym near) c.in_ok-table.ensures in
    sums-are (order_in p) e.ops e.number f (point_in p) (length c.as_slice.result.now) (length (near_in p)) c.in_ok-rounds.rounds.items c.push_partials.new.rounds.items
    c.in_ok-value.value (c.in_ok-value.value, c.new.result) c.in_ok-rounds.ensures.empty
    (ap length c.as_slice.ensures ∙ sym (length-map p.near e.number)) (c.in_ok-value.ensures.rounds f (point_in p) is) refl (ap (λ v. v.items) c.new.ensures)
