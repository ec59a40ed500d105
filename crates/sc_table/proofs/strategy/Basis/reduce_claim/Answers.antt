use Rattle.std.proofs.Common.{◌≡◌, ℕ, [], ◌∷◌, sym, ◌∙◌, ap, refl}
use Rattle.sc_definitions.specs.Ring.{Ops, IsRing, minus}
use Rattle.sc_definitions.specs.Tables.{projective}
use Rattle.sc_definitions.specs.Polynomials.{poly_at}
use Rattle.sc_definitions.specs.Rounds.{sent_pair, sent_polynomial, extrapolated, next_claim}
use Rattle.sc_definitions.proofs.Identity.{atom, nought, unit, ◌⊕◌, ◌⊗◌, ◌⊖◌, Agree, identity}
use Rattle.sc_definitions.proofs.MessageLaws.{next_claim-extrapolated}
use Rattle.sc_table.specs.Strategy.{basis_of}
use Rattle.sc_table.proofs.HonestLaws.{sent-honest}
use Rattle.sc_table.proofs.strategy.Basis.reduce_claim.Goals as goal

-- in the projective basis, through the values at 0 and 1 and the leading coefficient
coefficients-extrapolated : (o : Ops) → IsRing o → (claim c q r : ℕ) → next_claim projective o claim (c ∷ q ∷ []) r ≡ extrapolated o (minus o claim q) c q r
unfolding next_claim sent_polynomial sent_pair poly_at extrapolated Agree
coefficients-extrapolated o ring claim c q r =
    let K = atom 0 in let C = atom 1 in let Q = atom 2 in let R = atom 3 in
    identity o ring (claim ∷ c ∷ q ∷ r ∷ [])
    ((K ⊖ Q) ⊕ R ⊗ ((C ⊖ K) ⊕ R ⊗ (Q ⊕ R ⊗ nought)))
    (((K ⊖ Q) ⊗ (unit ⊖ R) ⊕ C ⊗ R) ⊕ Q ⊗ (R ⊗ (R ⊖ unit))) tt tt refl

pub returns-in-Evaluation-clause-claim : goal.returns-in-Evaluation-clause-claim
returns-in-Evaluation-clause-claim g c =
    let f = g.EF.Field in
    let claim = f.number c.args.claimed_sum in
    let first = f.number c.args.c_a in
    let leading = f.number c.args.c_inf in
    let r = f.number c.args.r in
    c.extrapolate_01inf.ensures.value
    ∙ ap (λ k. extrapolated f.ops first k leading r) c.sub.ensures
    ∙ sym (next_claim-extrapolated f.ops g.met.EF.Field.is_field.ring claim first leading r)
    ∙ ap (λ t. next_claim (basis_of t) f.ops claim (first ∷ leading ∷ []) r) (sym c.in-Evaluation.is)

pub returns-in-Projective-clause-claim : goal.returns-in-Projective-clause-claim
returns-in-Projective-clause-claim g c =
    let f = g.EF.Field in
    let claim = f.number c.args.claimed_sum in
    let first = f.number c.args.c_a in
    let leading = f.number c.args.c_inf in
    let r = f.number c.args.r in
    c.extrapolate_01inf-in-Projective.ensures.value
    ∙ ap (λ k. extrapolated f.ops k first leading r) c.sub-in-Projective.ensures
    ∙ sym (coefficients-extrapolated f.ops g.met.EF.Field.is_field.ring claim first leading r)
    ∙ ap (λ t. next_claim (basis_of t) f.ops claim (first ∷ leading ∷ []) r) (sym c.in-Projective.is)

pub returns-in-Evaluation-clause-honest : goal.returns-in-Evaluation-clause-honest
returns-in-Evaluation-clause-honest g c =
    let f = g.EF.Field in
    sent-honest (basis_of c.args.self) f.ops g.met.EF.Field.is_field.ring (f.number c.args.claimed_sum)
    (f.number c.args.c_a ∷ f.number c.args.c_inf ∷ []) (f.number c.args.r) _ (returns-in-Evaluation-clause-claim g c)

pub returns-in-Projective-clause-honest : goal.returns-in-Projective-clause-honest
returns-in-Projective-clause-honest g c =
    let f = g.EF.Field in
    sent-honest (basis_of c.args.self) f.ops g.met.EF.Field.is_field.ring (f.number c.args.claimed_sum)
    (f.number c.args.c_a ∷ f.number c.args.c_inf ∷ []) (f.number c.args.r) _ (returns-in-Projective-clause-claim g c)
