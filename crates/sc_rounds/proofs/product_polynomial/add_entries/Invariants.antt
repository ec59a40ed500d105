use Rattle.sc_definitions.specs.Ring.{plus}
use Rattle.sc_definitions.specs.Tables.{entries}
use Rattle.sc_rounds.proofs.MovedEntries.{IsMovedSoFar}
use Rattle.sc_rounds.proofs.product_polynomial.add_entries.Given as goal

abbrev pub invariant-loop-i : goal.invariant-loop-i
invariant-loop-i g l =
    let f = g.EF.Field in
    IsMovedSoFar f.number (λ b x. plus f.ops x (entries f.number l.values b)) l.i l.fn.totals l.totals
