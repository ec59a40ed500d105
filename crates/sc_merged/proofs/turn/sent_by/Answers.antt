use Rattle.std.proofs.Common.{[], ◌∷◌, ap, ◌∙◌}
use Rattle.sc_definitions.specs.Ring.{minus}
use Rattle.sc_definitions.specs.Rounds.{sent_polynomial, sent_pair}
use Rattle.sc_merged.proofs.turn.sent_by.Goals as goal

pub returns : goal.returns
unfolding sent_polynomial sent_pair
returns g c =
    let e = g.EF.Field in
    let N = e.number in
    let m = c.args.message in
    let linear = c.sub-3.ensures ∙ ap (λ v. minus e.ops v (N m.c_inf)) (c.sub-2.ensures ∙ ap (λ v. minus e.ops v (N m.c_a)) c.sub.ensures) in
    ap (λ v. N m.c_a ∷ v ∷ N m.c_inf ∷ []) linear
