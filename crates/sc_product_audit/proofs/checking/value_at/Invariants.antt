use Rattle.std.proofs.Common.{map, take}
use Rattle.sc_degree.specs.Provers.{IsFolded}
use Rattle.sc_degree.specs.Products.{prover_of, tables_of, product_arity}
use Rattle.sc_product_audit.proofs.checking.value_at.Given as goal

-- the challenges so far are folded in
abbrev pub invariant-loop-r : goal.invariant-loop-r
invariant-loop-r g l =
    let e = g.EF.Field in
    IsFolded (take l.r-index (map e.number l.challenges)) (prover_of e.ops (tables_of e.number l.fn.product) (product_arity l.fn.product))
    (prover_of e.ops (tables_of e.number l.product) (product_arity l.product))
