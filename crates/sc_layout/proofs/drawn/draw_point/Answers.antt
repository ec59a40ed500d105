use Rattle.std.proofs.Common.{◌≡◌, ◌≤◌, ◌*◌, ◌++◌, subst, map, length, replicate, refl, append-nil, ap, sym, ◌∙◌, arith}
use Rattle.sc_definitions.specs.declared.events.Event.TheVariants.{Draw}
use Rattle.sc_layout.proofs.DrawLaws.{draws-more, point-none, point-more, room-left, has-room}
use Rattle.sc_layout.proofs.drawn.draw_point.Goals as goal

pub loop-place-init : goal.loop-place-init
loop-place-init g c =
    let p = g.C.Challenger.party c.reserve.new.self in
    let d = g.EF.ExtensionField.DEGREE in
    let none : 0 * d ≡ 0 = omega arith in
    let room : c.args.variables * d ≤ p.spare = subst (λ k. c.args.variables * k ≤ p.spare) c.DEGREE.ensures c.in_ok-reserve.ensures.ok in
    let empty = c.in_ok-coordinates.ensures.empty in
    record {
      rules = refl;
      history = sym (ap (λ n. p.history ++ replicate n Draw) none ∙ append-nil p.history);
      drawn = ap (map g.EF.Field.number) empty ∙ sym (point-none p.rules g.EF.ExtensionField.extension p.history);
      count = c.in_ok-coordinates.coordinates.ok.0 ∙ ap length empty;
      capacity = c.in_ok-coordinates.ensures.room;
      room = omega (arith, room, none);
      spare = omega (arith, none);
    }

pub unwrap-requires : goal.unwrap-requires
unwrap-requires g c =
    let d = g.EF.ExtensionField.DEGREE in
    let p = g.C.Challenger.party c.loop-place.challenger in
    has-room (replicate d Draw) d p (g.C.Challenger.party c.sample_ext.new.challenger) c.sample_ext.result c.sample_ext.ensures.left
    (room-left d c.args.variables c.loop-place._place p.spare c.loop-place-test.true c.loop-place.invariant.room)

pub loop-place-preserved : goal.loop-place-preserved
loop-place-preserved g c =
    let d = g.EF.ExtensionField.DEGREE in
    let E = g.EF.ExtensionField.extension in
    let i = c.loop-place._place in
    let p = g.C.Challenger.party c.reserve.new.self in
    let before = c.loop-place.invariant in
    let left = rw c.unwrap.ensures at c.sample_ext.ensures.left in
    let drawn = rw c.unwrap.ensures at c.sample_ext.ensures.drawn in
    let put = c.push_reserved.ensures in
    record {
      rules = left.rules ∙ before.rules;
      history = draws-more i d p.history _ _ before.history left.history;
      drawn = point-more g.EF.Field.number p.rules _ E p.history _ i d c.loop-place.coordinates.items _ c.unwrap.result
          g.met.EF.ExtensionField.degree_is before.rules before.history drawn before.drawn put.items;
      count = omega (arith, put.len, before.count);
      capacity = omega (arith, put.capacity, before.capacity);
      room = omega (arith, left.spare, before.room);
      spare = omega (arith, left.spare, before.spare);
    }
