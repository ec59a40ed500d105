use Rattle.std.proofs.Common.{◌++◌, ◌*◌, ◌^◌, ◌≤◌, [], ◌∷◌, length, ◌∙◌, ap, arith}
use Rattle.sc_table.proofs.PlaceLaws.{placed-none, placed-next, placed-room, places-fit, places-some}
use Rattle.sc_table.proofs.lagrange.lagrange_weights_01inf_multi.Goals as goal

pub pow-requires : goal.pow-requires
pow-requires g c = places-fit (length c.args.rs.now) c.requires

pub push_reserved-requires : goal.push_reserved-requires
push_reserved-requires g c = omega (
  arith,
  c.in_ok-weights.ensures.exact,
  c.in_ok-weights.ensures.len,
  c.pow.ensures,
  places-some
      (length c.args.rs.now),
)

pub loop-r-init : goal.loop-r-init
loop-r-init g c =
    let f = g.F.Field in
    record {
      placed = placed-none f.number f.ops c.ONE.result c.push_reserved.new.self.items (c.push_reserved.ensures.items
          ∙ ap (λ l. l ++ c.ONE.result ∷ []) c.in_ok-weights.ensures.items)
          (ap f.number c.ONE.ensures ∙ g.met.F.Field.one_is);
      room = c.push_reserved.ensures.capacity ∙ c.in_ok-weights.ensures.exact ∙ c.pow.ensures;
    }

pub push_digits-requires : goal.push_digits-requires
push_digits-requires g c =
    let weights = c.loop-r.weights in
    let fits : 3 * length weights.items ≤ 3 ^ length c.args.rs.now =
    placed-room g.F.Field.number g.F.Field.ops c.args.rs.now weights.items c.loop-r.r-index c.loop-r-test.true c.loop-r.invariant.placed in
    omega (arith, fits, weights.ok.0, c.loop-r.invariant.room)

pub loop-r-preserved : goal.loop-r-preserved
loop-r-preserved g c =
    let f = g.F.Field in
    record {
      placed = placed-next f.number f.ops g.met.F.Field.is_field.ring c.args.rs.now c.loop-r.weights.items c.push_digits.new.weights.items
          c.loop-r.r-index c.r-item.result c.loop-r-test.true c.r-item.is
          c.loop-r.invariant.placed c.push_digits.ensures.size c.push_digits.ensures.digits;
      room = c.push_digits.ensures.room ∙ c.loop-r.invariant.room;
    }
