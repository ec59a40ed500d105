use Rattle.std.proofs.Common.{length, ap, sym, subst}
use Rattle.sc_definitions.specs.Tables.{entries}
use Rattle.sc_table.specs.Strategy.{order_of}
use Rattle.sc_partials.specs.Partials.{IsPartial}
use Rattle.sc_partials.specs.NextPartials.{AreNextPartials}
use Rattle.sc_partials.proofs.NextTables.{have-of}
use Rattle.sc_svo.specs.Points.{near_in, point_in}
use Rattle.sc_svo.proofs.point.SvoPoint.eval_next_slice.Goals as goal

pub summed-requires-in-Suffix : goal.summed-requires-in-Suffix
summed-requires-in-Suffix g c =
    let p = c.args.self.now in
    let e = g.EF.Field in
    let f = entries (λ (x : g.row.F.Denot). g.EF.Algebra.embedding (g.F.Field.number x)) c.args.rows.now in
    let is = ap order_of c.in-Suffix.is in
    let done = subst (λ k. IsPartial k e.ops e.number f (point_in p) (near_in p) c.in_ok-done-in-Suffix.done) is c.in_ok-done-in-Suffix.ensures in
    have-of e.number (length (near_in p)) _ c.in_ok-tables-in-Suffix.tables (c.in_ok-tables-in-Suffix.ensures done).tables

pub returns-in_ok-tables-in-Suffix : goal.returns-in_ok-tables-in-Suffix
returns-in_ok-tables-in-Suffix g c =
    let p = c.args.self.now in
    let e = g.EF.Field in
    let f = entries (λ (x : g.row.F.Denot). g.EF.Algebra.embedding (g.F.Field.number x)) c.args.rows.now in
    let is = ap order_of c.in-Suffix.is in
    let done = subst (λ k. IsPartial k e.ops e.number f (point_in p) (near_in p) c.in_ok-done-in-Suffix.done) is c.in_ok-done-in-Suffix.ensures in
    c.summed-in-Suffix.ensures f (subst (λ k. AreNextPartials k e.ops e.number f (point_in p) (near_in p) c.in_ok-tables-in-Suffix.tables) (sym is) (c.in_ok-tables-in-Suffix.ensures done))
