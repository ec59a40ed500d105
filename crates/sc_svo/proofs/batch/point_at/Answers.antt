use Rattle.std.proofs.Common.{map, reverse, ◌∙◌, ap}
use Rattle.sc_table.specs.Strategy.{order_of}
use Rattle.sc_svo.proofs.BatchLaws.{point-forward, point-backward, map-reverse}
use Rattle.sc_svo.proofs.batch.point_at.Goals as goal

pub returns-in-Prefix : goal.returns-in-Prefix
returns-in-Prefix g c =
    ap (map g.EF.Field.number) (c.new.ensures ∙ c.in_ok-coordinates.ensures.items)
    ∙ point-forward (order_of c.args.order) (map g.EF.Field.number c.args.rs.now) (ap order_of c.in-Prefix.is)

pub returns-in-Suffix : goal.returns-in-Suffix
returns-in-Suffix g c =
    ap (map g.EF.Field.number) (c.new-in-Suffix.ensures ∙ c.reverse.ensures.items ∙ ap reverse c.in_ok-coordinates.ensures.items)
    ∙ map-reverse g.EF.Field.number c.args.rs.now
    ∙ point-backward (order_of c.args.order) (map g.EF.Field.number c.args.rs.now) (ap order_of c.in-Suffix.is)
