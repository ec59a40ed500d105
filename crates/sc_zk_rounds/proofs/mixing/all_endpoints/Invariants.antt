use Rattle.std.proofs.Common.{◌≡◌, ◌≤◌, length, map, drop}
use Rattle.sc_commitments.specs.Matrices.{lists_in}
use Rattle.sc_zk_definitions.specs.Masks.{sum_of, endpoint}
use Rattle.sc_zk_rounds.proofs.mixing.all_endpoints.Given as goal

abbrev pub invariant-loop-left : goal.invariant-loop-left
invariant-loop-left g l =
    let e = g.EF.Field in
    record {
      within : l.left ≤ length l.masks;
      so_far : e.number l.sum ≡ sum_of e.ops (map (endpoint e.ops) (lists_in e.number (drop l.left l.masks)));
    }

abbrev pub decreases-loop-left : goal.decreases-loop-left
decreases-loop-left g l = l.left
