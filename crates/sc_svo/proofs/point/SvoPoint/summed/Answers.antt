use Rattle.std.proofs.Common.{◌≡◌, length, map, refl, ◌∙◌, ap, sym, subst}
use Rattle.std.proofs.lemmas.List.{length-map}
use Rattle.sc_partials.specs.NextPartials.{AreOf, AreNextPartials}
use Rattle.sc_partials.proofs.NextTables.{next-sums_are}
use Rattle.sc_svo.specs.Points.{order_in, near_in, point_in}
use Rattle.sc_svo.proofs.point.SvoPoint.summed.Goals as goal

pub push_next_partials-requires : goal.push_next_partials-requires
push_next_partials-requires g c =
    let p = c.args.self.now in
    subst (λ n. AreOf n c.args.tables) (length-map p.near g.EF.Field.number ∙ sym (ap length c.as_slice-near.ensures)) c.requires

pub returns : goal.returns
returns g c = λ f are.
    let p = c.args.self.now in
    let e = g.EF.Field in
    let near : map e.number c.as_slice-near.result.now ≡ near_in p = ap (map e.number) c.as_slice-near.ensures in
    let is : AreNextPartials (order_in p) e.ops e.number f (point_in p) (map e.number c.as_slice-near.result.now) c.args.tables =
    subst (λ kept. AreNextPartials (order_in p) e.ops e.number f (point_in p) kept c.args.tables) (sym near) are in
    next-sums_are (order_in p) e.ops e.number f (point_in p) (length c.as_slice-near.result.now) (length (near_in p)) c.in_ok-rounds.rounds.items c.push_next_partials.new.rounds.items
    c.in_ok-value.value (c.in_ok-value.value, c.new.result) c.in_ok-rounds.ensures.empty
    (ap length c.as_slice-near.ensures ∙ sym (length-map p.near e.number)) (c.in_ok-value.ensures.rounds f (point_in p) is) refl (ap (λ v. v.items) c.new.ensures)
