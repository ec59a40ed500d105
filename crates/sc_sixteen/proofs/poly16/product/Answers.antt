use Rattle.std.proofs.Common.{◌<◌, subst, sym}
use Rattle.sc_definitions.proofs.RingLaws.{times_below}
use Rattle.sc_sixteen.specs.SixteenLaws.{polynomials_field}
use Rattle.sc_definitions.specs.Sixteen.{polynomials}
use Rattle.sc_sixteen.proofs.PolynomialTables.{polynomial_product_entry}
use Rattle.sc_sixteen.proofs.poly16.product.Goals as goal

pub returns-clause-below : goal.returns-clause-below
returns-clause-below c =
    subst (λ k. k < 16) (sym (polynomial_product_entry c.args.a c.args.b c.requires.first c.requires.second))
    (times_below polynomials polynomials_field.ring c.args.a c.args.b)

pub returns-clause-product : goal.returns-clause-product
returns-clause-product c = polynomial_product_entry c.args.a c.args.b c.requires.first c.requires.second
