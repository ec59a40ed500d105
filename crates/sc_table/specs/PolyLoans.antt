-- What a `Poly` ends as, where a `&mut` to its values is returned.
use Rattle.std.specs.Prelude.{List}
use Rattle.std.specs.Borrow.{Lends, Fml, RattleType, MutBor, Array}
use Rattle.sc_table.specs.declared.poly.Poly.{Poly}
use Rattle.sc_table.specs.Polys.{with_values}
use Rattle.sc_table.specs.contracts.poly.Poly.{the_row}

-- p ends with the values that r shows last
abbrev pub LendsValues : (T : RattleType) → MutBor (Poly T.Denot) → MutBor (List T.Denot) → Fml
LendsValues T p r = Lends (the_row T) (Array T 0) p r (with_values p.now)
