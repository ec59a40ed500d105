use Rattle.std.proofs.Common.{◌≡◌, take}
use Rattle.sc_commitments.specs.Matrices.{lists_in}
use Rattle.sc_commitments.specs.Codes.{joined}
use Rattle.sc_commitments.proofs.node_code.joined_lists.Given as goal

abbrev pub invariant-loop-j : goal.invariant-loop-j
invariant-loop-j g l =
    lists_in g.EF.Field.number l.lists.items ≡ joined (lists_in g.EF.Field.number (take l.j l.messages)) (lists_in g.EF.Field.number (take l.j l.randomness))
