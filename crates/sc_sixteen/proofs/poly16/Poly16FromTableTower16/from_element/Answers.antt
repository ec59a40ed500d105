use Rattle.std.proofs.Common.{◌∙◌, ap, get_or}
use Rattle.sc_sixteen.specs.declared.poly16.TheConstants.{FROM_TOWER}
use Rattle.sc_sixteen.proofs.PolynomialTables.{from_tower_entry}
use Rattle.sc_sixteen.proofs.poly16.Poly16FromTableTower16.from_element.Goals as goal

pub returns : goal.returns
returns c = ap (λ k. get_or FROM_TOWER k 0) c.index.ensures ∙ from_tower_entry c.args.x.value c.args.x.below
