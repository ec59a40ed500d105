use Rattle.sc_sixteen.proofs.PolynomialTables.{polynomial_inverse_entry}
use Rattle.sc_sixteen.proofs.poly16.Poly16Field.inverse.Goals as goal

pub returns-else-self-eq0-clause-product : goal.returns-else-self-eq0-clause-product
returns-else-self-eq0-clause-product c = polynomial_inverse_entry c.args.self.value c.args.self.below c.if-self-eq0.false
