use Rattle.std.proofs.Common.{map, string_bytes}
use Rattle.sumcheck_replies.proofs.GridLines.{pushed-line}
use Rattle.sumcheck_audit.proofs.grids.push_grid.Goals as goal

pub returns : goal.returns
returns g c =
    pushed-line (string_bytes c.args.text.now) c.args.i c.args.place.now (map g.EF.Field.number c.args.values.now)
    (string_bytes c.push_grid_name.new.text) (string_bytes c.push_values.new.text) _ c.in_ok-push_grid_name.ensures c.in_ok-push_values.ensures c.in_ok-push_end.ensures
