use Rattle.std.proofs.Common.{◌≡◌, ◌++◌, map, drop}
use Rattle.sc_definitions.specs.Ring.{plus}
use Rattle.sc_zk_definitions.specs.Masks.{endpoint}
use Rattle.sc_commitments.specs.Matrices.{lists_in}
use Rattle.sc_zk_views.specs.Sums.{AreMaskSums}
use Rattle.sc_zk_views.specs.Views.{pieces_in, rows_in}
use Rattle.sc_zk_views.proofs.RoundLaws.{wires_left}
use Rattle.sc_zk_views.proofs.assemble.all_wires.Given as goal

abbrev pub invariant-loop-i : goal.invariant-loop-i
invariant-loop-i g l =
    let o = g.EF.Field.ops in
    let N = g.EF.Field.number in
    let ss = lists_in N l.masks in
    let gs = map N l.gammas in
    let ps = pieces_in N l.plain in
    record {
      so_far : rows_in N l.wires.items ++ wires_left o (N l.eps) (N l.sums.done) (drop l.i ss) (drop l.i gs) (drop l.i ps)
          ≡ wires_left o (N l.eps) (N l.fn.before.done) ss gs ps;
      known : AreMaskSums o N (plus o 1 1) (map (endpoint o) (drop l.i ss)) l.sums;
    }
