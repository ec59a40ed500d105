use Rattle.std.proofs.Common.{◌++◌, map, ap, ◌∙◌, append_assoc, string_bytes}
use Rattle.std.specs.Prelude.{codes}
use Rattle.sumcheck_replies.specs.Lines.{spaced}
use Rattle.sumcheck_matmul.specs.MatmulLines.{lucky_point_name}
use Rattle.sumcheck_matmul.proofs.lines.push_lucky_point.Goals as goal

pub returns : goal.returns
returns g c =
    let start = string_bytes c.args.text.now in
    let name = lucky_point_name c.args.vanishing in
    let values = spaced (map g.EF.Field.number c.args.poly.now) in
    c.in_ok-push_end.ensures ∙ ap (λ t. t ++ codes "\n") (c.in_ok-push_values.ensures ∙ ap (λ t. t ++ values) c.in_ok-push_lucky_point_name.ensures ∙ append_assoc start name values)
    ∙ append_assoc start (name ++ values) (codes "\n")
