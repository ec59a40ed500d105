use Rattle.sc_definitions.specs.Ring.{times}
use Rattle.sc_rounds.proofs.MovedEntries.{IsMovedSoFar}
use Rattle.sc_zk_layout.proofs.scaled.scale_rows.Given as goal

abbrev pub invariant-loop-i : goal.invariant-loop-i
invariant-loop-i g l =
    let f = g.EF.Field in
    IsMovedSoFar f.number (λ b x. times f.ops x (f.number l.scale)) l.i l.fn.rows l.rows
