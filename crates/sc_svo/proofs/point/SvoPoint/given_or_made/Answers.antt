use Rattle.std.proofs.Common.{IfSome, subst}
use Rattle.sc_definitions.specs.Tables.{entries}
use Rattle.sc_partials.specs.Partials.{IsPartial}
use Rattle.sc_svo.specs.Points.{order_in, near_in, point_in}
use Rattle.sc_svo.proofs.NextPointLaws.{copied-partial}
use Rattle.sc_svo.proofs.point.SvoPoint.given_or_made.Goals as goal

pub returns-in_ok-copy-in-Some : goal.returns-in_ok-copy-in-Some
returns-in_ok-copy-in-Some g c = λ given.
    let p = c.args.self.now in
    let e = g.EF.Field in
    let f = entries (λ (x : g.row.F.Denot). g.EF.Algebra.embedding (g.F.Field.number x)) c.args.rows.now in
    copied-partial (order_in p) e.ops e.number f (point_in p) (near_in p) c.in-Some.table.now c.in_ok-copy-in-Some.field-0 c.in_ok-copy-in-Some.ensures.variables c.in_ok-copy-in-Some.ensures.table
    (subst (λ d. IfSome d (λ t. IsPartial (order_in p) e.ops e.number f (point_in p) (near_in p) t.now)) c.in-Some.is given)
