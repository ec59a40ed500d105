use Rattle.std.proofs.Common.{map, ◌∙◌, arith}
use Rattle.sc_layout.proofs.DrawLaws.{observed-both}
use Rattle.sc_layout.proofs.drawn.observe_opening.Goals as goal

pub returns : goal.returns
returns g c =
    let E = g.EF.ExtensionField.extension in
    let N = g.EF.Field.number in
    let kept = c.in_ok-reserve.ensures.kept in
    let first = c.observe_values.ensures in
    let second = c.observe_values-2.ensures in
    record {
      rules = second.rules ∙ first.rules ∙ kept.rules;
      history = observed-both E (map N c.args.current.now) (map N c.args.next.now) _ _ _ _ kept.history first.history second.history;
      spare = omega (arith, kept.spare, first.spare, second.spare);
    }
