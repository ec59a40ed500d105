use Rattle.std.proofs.Common.{◌≡◌, ◌^◌, All, length, take}
use Rattle.sc_product_audit.proofs.shape.common_arity.Given as goal

-- the tables so far have as many variables as the first one
abbrev pub invariant-loop-table : goal.invariant-loop-table
invariant-loop-table g l = All (λ t. length t.items ≡ 2 ^ l.n) (take l.table-index l.tables)
