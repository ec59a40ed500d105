use Rattle.std.proofs.Common.{◌≡◌, All, length, take}
use Rattle.sumcheck_explain.proofs.reading.have_length.Given as goal

-- the lists so far have this length
abbrev pub invariant-loop-list : goal.invariant-loop-list
invariant-loop-list l = All (λ m. length m ≡ l.length) (take l.list-index l.lists)
