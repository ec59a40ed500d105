use Rattle.std.proofs.Common.{[], ◌∷◌, ap, sym, ◌∙◌}
use Rattle.sc_definitions.specs.Ring.{minus}
use Rattle.sc_definitions.specs.Rounds.{sent_polynomial, sent_pair}
use Rattle.sc_table.specs.Strategy.{basis_of}
use Rattle.sc_rounds.proofs.turns.sent_by.Goals as goal

pub returns-in-Evaluation : goal.returns-in-Evaluation
unfolding sent_polynomial sent_pair
returns-in-Evaluation g c =
    let e = g.EF.Field in
    let N = e.number in
    let m = c.args.message in
    let linear = c.sub-in-Evaluation-2.ensures ∙ ap (λ v. minus e.ops v (N m.c_inf)) (c.sub-in-Evaluation.ensures ∙ ap (λ v. minus e.ops v (N m.c_a)) c.sub.ensures) in
    ap (λ v. N m.c_a ∷ v ∷ N m.c_inf ∷ []) linear
    ∙ ap (λ t. sent_polynomial (basis_of t) e.ops (N c.args.claim) (N m.c_a ∷ N m.c_inf ∷ [])) (sym c.in-Evaluation.is)

pub returns-in-Projective : goal.returns-in-Projective
unfolding sent_polynomial sent_pair
returns-in-Projective g c =
    let e = g.EF.Field in
    let N = e.number in
    let m = c.args.message in
    ap (λ v. v ∷ N c.sub-in-Projective-2.result ∷ N m.c_inf ∷ []) c.sub-in-Projective.ensures
    ∙ ap (λ v. minus e.ops (N c.args.claim) (N m.c_inf) ∷ v ∷ N m.c_inf ∷ []) c.sub-in-Projective-2.ensures
    ∙ ap (λ t. sent_polynomial (basis_of t) e.ops (N c.args.claim) (N m.c_a ∷ N m.c_inf ∷ [])) (sym c.in-Projective.is)
