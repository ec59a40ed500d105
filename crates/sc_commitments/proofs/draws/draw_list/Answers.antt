use Rattle.std.proofs.Common.{map, length, ap, sym, ◌∙◌, arith}
use Rattle.sc_commitments.proofs.CodeLaws.{draws-none, draws-push}
use Rattle.sc_commitments.proofs.draws.draw_list.Goals as goal

pub loop-place-init : goal.loop-place-init
loop-place-init g c =
    let none = draws-none g.EF.Field.ops.size (g.G.Rng.stream c.args.rng.now) in
    let empty = c.in_ok-drawn.ensures.empty in
    record {
      numbers = ap (map g.EF.Field.number) empty ∙ sym (ap (λ p. p.0) none);
      stream = sym (ap (λ p. p.1) none);
      count = c.in_ok-drawn.drawn.ok.0 ∙ ap length empty;
      room = c.in_ok-drawn.ensures.room;
    }

-- one draw more
pub loop-place-preserved : goal.loop-place-preserved
loop-place-preserved g c =
    let inv = c.loop-place.invariant in
    let put = c.push_reserved.ensures in
    let more = draws-push g.EF.Field.number g.EF.Field.ops.size c.loop-place._place (g.G.Rng.stream c.args.rng.now) _ _ c.loop-place.drawn.items _ c.draw.result put.items
    inv.numbers inv.stream c.draw.ensures.number c.draw.ensures.left in
    record { numbers = more.0; stream = more.1; count = omega (arith, put.len, inv.count); room = omega (arith, put.capacity, inv.room) }
