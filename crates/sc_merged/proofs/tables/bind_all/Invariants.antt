use Rattle.sc_merged.specs.BoundPolys.{AreBound}
use Rattle.sc_merged.proofs.tables.bind_all.Given as goal

abbrev pub invariant-loop-pair : goal.invariant-loop-pair
invariant-loop-pair g l =
    let e = g.EF.Field in
    AreBound e.ops e.number (e.number l.r) l.pair-index l.fn.pairs l.pairs
