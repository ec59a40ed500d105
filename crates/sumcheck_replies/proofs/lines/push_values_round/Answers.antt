use Rattle.std.proofs.Common.{map, string_bytes}
use Rattle.sumcheck_replies.proofs.LineLaws.{pushed-round}
use Rattle.sumcheck_replies.proofs.lines.push_values_round.Goals as goal

pub returns : goal.returns
returns g c =
    pushed-round (string_bytes c.args.text.now) c.args.i (map g.EF.Field.number c.args.values.now) c.args.witness c.args.challenge _ _ _ _
    c.in_ok-push_round_name.ensures c.in_ok-push_values.ensures c.in_ok-push_witness.ensures c.in_ok-push_challenge.ensures
