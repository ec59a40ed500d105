use Rattle.std.proofs.Common.{◌≡◌, ◌^◌, length, take, vec_capacity}
use Rattle.sc_table.proofs.PlaceLaws.{ArePlaced}
use Rattle.sc_table.proofs.lagrange.lagrange_weights_01inf_multi.Given as goal

abbrev pub invariant-loop-r : goal.invariant-loop-r
invariant-loop-r g l =
    let f = g.F.Field in
    record {
      placed : ArePlaced f.number f.ops (take l.r-index l.rs) l.weights.items;
      room : vec_capacity l.weights ≡ 3 ^ length l.rs;
    }
