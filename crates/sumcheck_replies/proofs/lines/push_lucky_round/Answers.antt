use Rattle.std.proofs.Common.{map, string_bytes}
use Rattle.sumcheck_replies.proofs.GridLines.{pushed-turn}
use Rattle.sumcheck_replies.proofs.lines.push_lucky_round.Goals as goal

pub returns : goal.returns
returns g c =
    pushed-turn (string_bytes c.args.text.now) c.args.round c.args.vanishing (map g.EF.Field.number c.args.poly.now) (string_bytes c.push_lucky_round_name.new.text)
    (string_bytes c.push_values.new.text) _ c.in_ok-push_lucky_round_name.ensures c.in_ok-push_values.ensures c.in_ok-push_end.ensures
