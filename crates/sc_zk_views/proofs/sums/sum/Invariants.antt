use Rattle.std.proofs.Common.{◌≡◌, ◌≤◌, length, map, drop}
use Rattle.sc_zk_definitions.specs.Masks.{sum_of}
use Rattle.sc_zk_views.proofs.sums.sum.Given as goal

abbrev pub invariant-loop-left : goal.invariant-loop-left
invariant-loop-left g l =
    let e = g.EF.Field in
    record {
      within : l.left ≤ length l.values;
      so_far : e.number l.sum ≡ sum_of e.ops (map e.number (drop l.left l.values));
    }

abbrev pub decreases-loop-left : goal.decreases-loop-left
decreases-loop-left g l = l.left
