use Rattle.sc_sixteen.proofs.TowerTables.{tower_inverse_entry}
use Rattle.sc_sixteen.proofs.tower16.Tower16Field.inverse.Goals as goal

pub returns-else-self-eq0-clause-product : goal.returns-else-self-eq0-clause-product
returns-else-self-eq0-clause-product c = tower_inverse_entry c.args.self.value c.args.self.below c.if-self-eq0.false
