use Rattle.std.proofs.Common.{◌∙◌, arith}
use Rattle.sc_degree_tests.proofs.Arity.{first_arity-is}
use Rattle.sc_degree_tests.proofs.tests.table_product.product_of.Goals as goal

pub returns-clause-arity : goal.returns-clause-arity
returns-clause-arity g c =
    c.new.ensures.arity ∙ first_arity-is 1 c.loop-pair.tables.items (omega (arith, c.loop-pair.invariant.0, c.loop-pair-test.false, c.requires)) c.loop-pair.invariant.1
