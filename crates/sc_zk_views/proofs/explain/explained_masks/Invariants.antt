use Rattle.std.proofs.Common.{◌≡◌, ◌++◌, ◌∷◌, map, drop}
use Rattle.sc_zk_definitions.specs.Explained.{half_of, unmixing, explained_masks}
use Rattle.sc_commitments.specs.Matrices.{lists_in}
use Rattle.sc_zk_views.specs.Sums.{AreMaskSums}
use Rattle.sc_zk_views.specs.Views.{pieces_in, rows_in}
use Rattle.sc_zk_views.proofs.explain.explained_masks.Given as goal

abbrev pub invariant-loop-i : goal.invariant-loop-i
invariant-loop-i g l =
    let o = g.EF.Field.ops in
    let N = g.EF.Field.number in
    let es = N l.first ∷ map N l.endpoints in
    let gs = map N l.gammas in
    let ps = pieces_in N l.plain in
    let ws = rows_in N l.wires in
    let u = unmixing (half_of o) (N l.eps) in
    record {
      so_far : lists_in N l.masks.items ++ explained_masks o u (N l.sums.done) (drop l.i es) (drop l.i gs) (drop l.i ps) (drop l.i ws)
          ≡ explained_masks o u 0 es gs ps ws;
      known : AreMaskSums o N (half_of o) (drop l.i es) l.sums;
    }
