use Rattle.std.proofs.Common.{◌<◌, subst, sym}
use Rattle.sc_definitions.proofs.RingLaws.{times_below}
use Rattle.sc_sixteen.specs.SixteenLaws.{tower_field}
use Rattle.sc_definitions.specs.Sixteen.{tower}
use Rattle.sc_sixteen.proofs.TowerTables.{tower_product_entry}
use Rattle.sc_sixteen.proofs.tower16.product.Goals as goal

pub returns-clause-below : goal.returns-clause-below
returns-clause-below c =
    subst (λ k. k < 16) (sym (tower_product_entry c.args.a c.args.b c.requires.first c.requires.second))
    (times_below tower tower_field.ring c.args.a c.args.b)

pub returns-clause-product : goal.returns-clause-product
returns-clause-product c = tower_product_entry c.args.a c.args.b c.requires.first c.requires.second
